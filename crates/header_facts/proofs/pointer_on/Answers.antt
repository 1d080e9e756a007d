-- The pointer is the one of the header in the slot, and a pointer in use lies in it.
use Rattle.std.proofs.Common.{rules, ◌≡◌, Err}
use mathlib.Core.Path.{ap, ap₂, ◌∙◌}
use native.Mathlib.Omega.{arith}
use Rattle.image.specs.Blocks.{block}
use Rattle.pointers.specs.Pointers.{pointer_lbn, pointer_count, pointers_at, pointers, Fits, pointer_at}
use Rattle.volume.specs.Volume.{header}
use Rattle.volume.proofs.VolumeLaws.{says}
use Rattle.header_facts.proofs.HeaderLaws.{find-opened, found-fits, pointer-refused, pointer-absent, pointer-done}
use Rattle.header_facts.proofs.pointer_on.Goals as goal

pub find_number-requires : goal.find_number-requires
find_number-requires c = (c.requires.0, (says _ _ c.requires.1).blocks, c.slot_in_use-place.ensures)

pub returns-in_err-lbn : goal.returns-in_err-lbn
returns-in_err-lbn c =
    let e : c.from_residual.result ≡ Err c.in_err-lbn.field-0.0 = search rules in
    e ∙ pointer-refused _ _ _ _ (find-opened _ _ c.requires.0 ∙ c.in_err-lbn.ensures)

pub returns-then-pointer_number-p : goal.returns-then-pointer_number-p
unfolding header
returns-then-pointer_number-p c =
    let image = c.args.image.now in
    let f = c.in_ok-lbn.ensures in
    let named : c.block-h.result.now ≡ header image c.args.n.0 = c.block-h.ensures ∙ ap (block image) f.1 in
    pointer-absent image c.args.n.0 _ (find-opened _ _ c.requires.0 ∙ f.0) (omega (arith, ap pointers named))

pub pointer_lbn-requires : goal.pointer_lbn-requires
unfolding header
pointer_lbn-requires c =
    let image = c.args.image.now in
    let f = c.in_ok-lbn.ensures in
    let fits : Fits c.block-h.result.now = rw (c.block-h.ensures, f.1) (found-fits image c.args.n.0 (find-opened _ _ c.requires.0 ∙ f.0)) in
    omega arith

pub pointer_count-requires : goal.pointer_count-requires
unfolding header
pointer_count-requires c =
    let image = c.args.image.now in
    let f = c.in_ok-lbn.ensures in
    let fits : Fits c.block-h.result.now = rw (c.block-h.ensures, f.1) (found-fits image c.args.n.0 (find-opened _ _ c.requires.0 ∙ f.0)) in
    omega arith

pub returns : goal.returns
unfolding pointer_at header
returns c =
    let image = c.args.image.now in
    let f = c.in_ok-lbn.ensures in
    let named : c.block-h.result.now ≡ header image c.args.n.0 = c.block-h.ensures ∙ ap (block image) f.1 in
    let begins = ap pointers_at named in
    pointer-done image c.args.n.0 c.args.p (find-opened _ _ c.requires.0 ∙ f.0) (omega (arith, ap pointers named)) _
    (c.pointer_lbn.ensures.0 ∙ ap₂ pointer_lbn named (omega (arith, begins)))
    (c.pointer_count.ensures.0 ∙ ap₂ pointer_count named (omega (arith, begins)))
