-- The tests are those of the definition, and the row of a VBN begins at the place one less.
use Rattle.std.proofs.Common.{rules, ◌≡◌, Err}
use mathlib.Core.Path.{sym, ◌∙◌}
use native.Mathlib.Omega.{arith}
use Rattle.answer.specs.Outcome.{unless, ◌then◌}
use Rattle.answer.specs.Answers.{answer_of}
use Rattle.open_file.proofs.OpeningLaws.{opened}
use Rattle.mapping.specs.Mapping.{has_vbn, find_vbn}
use Rattle.extents.specs.Extents.{extent_answer}
use Rattle.extents.proofs.ExtentLaws.{extent-refused, extent-begins, extent-done}
use Rattle.extents.proofs.extent.Goals as goal

pub returns-in_err-file : goal.returns-in_err-file
returns-in_err-file c =
    let a = c.args in
    let e : c.from_residual.result ≡ Err c.in_err-file.field-0.0 = search rules in
    e ∙ sym (extent-refused a.image.now a.id a.vbn.0 _ c.in_err-file.ensures)

pub returns-then-vbn-eq0 : goal.returns-then-vbn-eq0
unfolding extent_answer answer_of find_vbn has_vbn unless ◌then◌
returns-then-vbn-eq0 c = grind arith

pub row_of-requires : goal.row_of-requires
row_of-requires c =
    let a = c.args in
    let file = c.in_ok-file.ensures in
    let o = opened a.image.now a.id file.0 in
    rw c.from.ensures ((o.volume, file.1, file.5), o.found.first, o.chain, file.3)

pub returns-in-Ahead : goal.returns-in-Ahead
returns-in-Ahead c =
    let a = c.args in
    let file = c.in_ok-file.ensures in
    absurd (extent-begins a.image.now a.id a.vbn.0 file.0 (omega arith) (omega (arith, file.2)) _ (rw c.from.ensures at c.row_of.ensures) _ c.in-Ahead.is)

pub returns-in-Open : goal.returns-in-Open
returns-in-Open c =
    let a = c.args in
    let file = c.in_ok-file.ensures in
    sym (extent-done a.image.now a.id a.vbn.0 file.0 (omega arith) (omega (arith, file.2)) _ (rw c.from.ensures at c.row_of.ensures) _ _ c.in-Open.is)

pub returns-in-Open-2 : goal.returns-in-Open-2
returns-in-Open-2 c =
    let a = c.args in
    let file = c.in_ok-file.ensures in
    sym (extent-done a.image.now a.id a.vbn.0 file.0 (omega arith) (omega (arith, file.2)) _ (rw c.from.ensures at c.row_of.ensures) _ _ c.in-Open.is)
