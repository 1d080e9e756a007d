-- What the header in the slot says, where it was found.
use Rattle.std.proofs.Common.{rules, ◌≡◌, Err}
use mathlib.Core.Path.{ap, ◌∙◌}
use Rattle.image.specs.Blocks.{block}
use Rattle.volume.specs.Volume.{header}
use Rattle.volume.proofs.VolumeLaws.{says}
use Rattle.header_facts.specs.Headers.{facts_of}
use Rattle.header_facts.proofs.HeaderLaws.{find-opened, found-ident, header_refused, header-done}
use Rattle.header_facts.proofs.header_on.Goals as goal

pub find_number-requires : goal.find_number-requires
find_number-requires c = (c.requires.0, (says _ _ c.requires.1).blocks, c.slot_in_use-place.ensures)

pub returns-in_err-lbn : goal.returns-in_err-lbn
returns-in_err-lbn c =
    let e : c.from_residual.result ≡ Err c.in_err-lbn.field-0.0 = search rules in
    e ∙ header_refused _ _ _ (find-opened _ _ c.requires.0 ∙ c.in_err-lbn.ensures)

pub facts_of-requires : goal.facts_of-requires
unfolding header
facts_of-requires c =
    let f = c.in_ok-lbn.ensures in
    rw (c.block.ensures, f.1) (found-ident c.args.image.now c.args.n.0 (find-opened _ _ c.requires.0 ∙ f.0))

pub returns : goal.returns
unfolding header
returns c =
    let image = c.args.image.now in
    let f = c.in_ok-lbn.ensures in
    header-done image c.args.n.0 (find-opened _ _ c.requires.0 ∙ f.0) _ (c.facts_of.ensures ∙ ap facts_of (c.block.ensures ∙ ap (block image) f.1))
