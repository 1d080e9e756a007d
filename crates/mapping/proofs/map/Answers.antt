-- The tests are those of the definition, and the place of a VBN is one less.
use Rattle.std.proofs.Common.{rules, ◌≡◌, Err}
use mathlib.Core.Path.{sym, ◌∙◌}
use native.Mathlib.Omega.{arith}
use Rattle.answer.specs.Outcome.{unless, ◌then◌}
use Rattle.answer.specs.Answers.{answer_of}
use Rattle.open_file.proofs.OpeningLaws.{opened}
use Rattle.mapping.specs.Mapping.{has_vbn, find_vbn, map_answer}
use Rattle.mapping.proofs.MappingLaws.{map-refused, map-done}
use Rattle.mapping.proofs.map.Goals as goal

pub returns-in_err-file : goal.returns-in_err-file
returns-in_err-file c =
    let a = c.args in
    let e : c.from_residual.result ≡ Err c.in_err-file.field-0.0 = search rules in
    e ∙ sym (map-refused a.image.now a.id a.vbn.0 _ c.in_err-file.ensures)

pub returns-then-vbn-eq0 : goal.returns-then-vbn-eq0
unfolding map_answer answer_of find_vbn has_vbn unless ◌then◌
returns-then-vbn-eq0 c = grind arith

pub lbn_at-requires : goal.lbn_at-requires
lbn_at-requires c =
    let a = c.args in
    let told = c.in_ok-file.ensures in
    let o = opened a.image.now a.id told.0 in
    rw c.from.ensures ((o.volume, told.1, told.5), o.found.first, o.chain, omega (arith, told.2), told.3)

pub returns : goal.returns
returns c =
    let a = c.args in
    let told = c.in_ok-file.ensures in
    sym (map-done a.image.now a.id a.vbn.0 told.0 _ (omega arith) (omega (arith, told.2)) (rw c.from.ensures at c.lbn_at.ensures))
