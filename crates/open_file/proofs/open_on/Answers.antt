-- Each part is asked where those before it are passed, and the header that was found is the one in the slot.
use Rattle.std.proofs.Common.{rules}
use mathlib.Core.Path.{◌≡◌, sym, ap, ◌∙◌}
use Rattle.image.specs.Blocks.{block}
use Rattle.volume.specs.Volume.{header}
use Rattle.open_file.specs.Opening.{anyone}
use Rattle.open_file.proofs.OpeningLaws.{access-by, tells-refused, finds, anyone-passed, on-unfound, on-locked, on-chained}
use Rattle.open_file.proofs.open_on.Goals as goal

pub returns-in_err-lbn : goal.returns-in_err-lbn
returns-in_err-lbn c = tells-refused c.args.image.now c.args.id _ _ _ (search rules) (on-unfound anyone c.args.image.now c.args.id _ c.in_err-lbn.ensures)

pub returns-in_err-access : goal.returns-in_err-access
unfolding header
returns-in_err-access c =
    let f = c.in_ok-lbn.ensures in
    let asked = access-by c.args.image.now c.args.id _ (c.block.ensures ∙ ap (block c.args.image.now) f.1) in
    tells-refused c.args.image.now c.args.id _ _ _ (search rules) (on-locked anyone c.args.image.now c.args.id f.0 (anyone-passed _) _ (sym asked ∙ sym c.access.ensures ∙ c.in_err-access.was))

pub open_chain-requires : goal.open_chain-requires
open_chain-requires c = (c.requires, (finds _ _ c.in_ok-lbn.ensures.0).first, c.in_ok-lbn.ensures.1)

pub returns : goal.returns
unfolding header
returns c =
    let f = c.in_ok-lbn.ensures in
    let asked = access-by c.args.image.now c.args.id _ (c.block.ensures ∙ ap (block c.args.image.now) f.1) in
    rw (on-chained anyone c.args.image.now c.args.id f.0 (anyone-passed _) (sym asked ∙ sym c.access.ensures ∙ c.in_ok-access.was)) c.open_chain.ensures
