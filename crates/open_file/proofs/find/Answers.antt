-- The tests of the header that was found are those of the definition.
use Rattle.std.proofs.Common.{rules, ◌≡◌, Ok, Err}
use mathlib.Core.Path.{ap, ◌∙◌}
use native.Mathlib.Omega.{arith}
use Rattle.answer.specs.Outcome.{unless, ◌then◌}
use Rattle.image.specs.Blocks.{block}
use Rattle.header.specs.Fields.{h_fseq, segment}
use Rattle.volume.specs.Volume.{slot, header}
use Rattle.volume.proofs.VolumeLaws.{says}
use Rattle.chains.specs.Finding.{find_number}
use Rattle.chains.proofs.FindingLaws.{finds-refused}
use Rattle.open_file.specs.Opening.{find}
use Rattle.open_file.proofs.OpeningLaws.{find-unfound, find-sequence, find-segment, found_passed}
use Rattle.open_file.proofs.find.Goals as goal

pub returns-then-id-ne0 : goal.returns-then-id-ne0
unfolding find unless ◌then◌
returns-then-id-ne0 c = grind arith

pub find_number-requires : goal.find_number-requires
find_number-requires c = (c.requires.0, (says _ _ c.requires.1).blocks, c.slot_in_use-place.ensures)

pub returns-in_err-lbn : goal.returns-in_err-lbn
returns-in_err-lbn c =
    let a = c.args in
    let e : find_number a.image.now a.id.number ≡ Err c.in_err-lbn.field-0.0 = cc c.in_err-lbn.ensures in
    finds-refused _ _ _ _ (search rules) (find-unfound a.image.now a.id (omega arith) _ e)

pub returns-then-h_fseq-id : goal.returns-then-h_fseq-id
unfolding header
returns-then-h_fseq-id c =
    let a = c.args in
    let f : (find_number a.image.now a.id.number ≡ Ok tt) × (c.in_ok-lbn.lbn.0 ≡ slot a.image.now a.id.number) = rw c.from.ensures at c.in_ok-lbn.ensures in
    let named : c.block-h.result.now ≡ header a.image.now a.id.number = c.block-h.ensures ∙ ap (block a.image.now) f.1 in
    find-sequence _ a.id (omega arith) f.0 (omega (arith, ap h_fseq named))

pub returns-then-segment-ne0 : goal.returns-then-segment-ne0
unfolding header
returns-then-segment-ne0 c =
    let a = c.args in
    let f : (find_number a.image.now a.id.number ≡ Ok tt) × (c.in_ok-lbn.lbn.0 ≡ slot a.image.now a.id.number) = rw c.from.ensures at c.in_ok-lbn.ensures in
    let named : c.block-h.result.now ≡ header a.image.now a.id.number = c.block-h.ensures ∙ ap (block a.image.now) f.1 in
    find-segment _ a.id (omega arith) f.0 (omega (arith, ap h_fseq named)) (omega (arith, ap segment named))

pub returns : goal.returns
unfolding header
returns c =
    let a = c.args in
    let f : (find_number a.image.now a.id.number ≡ Ok tt) × (c.in_ok-lbn.lbn.0 ≡ slot a.image.now a.id.number) = rw c.from.ensures at c.in_ok-lbn.ensures in
    let named : c.block-h.result.now ≡ header a.image.now a.id.number = c.block-h.ensures ∙ ap (block a.image.now) f.1 in
    (found_passed _ a.id (omega arith) f.0 (omega (arith, ap h_fseq named)) (omega (arith, ap segment named)), f.1)
