-- Marks that are cleared count the links of no header yet.
use native.Mathlib.Omega.{arith}
use mathlib.Core.Path.{◌≡◌, ap, ◌∙◌}
use mathlib.Core.List.{List, []}
use Prim.Native.Nat.{ℕ}
use Rattle.volume.specs.declared.Volume.{Volume}
use lib.ListN.{length}
use Rattle.volume.specs.Volume.{fmax, volume_of}
use Rattle.volume.proofs.VolumeLaws.{says}
use Rattle.marks.specs.Marks.{cleared, tallied}
use Rattle.marks.proofs.MarkLaws.{tallied-length}
use Rattle.links.specs.Links.{linked}
use Rattle.links.proofs.LinksLaws.{cleared-is, tallied-again, tallied-still}
use Rattle.links.proofs.count_links.Goals as goal

pub clear_first-requires : goal.clear_first-requires
clear_first-requires c = omega (arith, (says c.args.image.now c.args.v c.requires.0.1).fmax, c.requires.2)

-- The marks once they are cleared.
clear : (image area new : List ℕ) (v : Volume) → v ≡ volume_of image → new ≡ cleared area v.fmax → new ≡ tallied [] 1 (fmax image) area
clear image area new v is e = rw e (cleared-is 1 (fmax image) _ area (omega (arith, (says image v is).fmax)))

pub raise_links-requires : goal.raise_links-requires
raise_links-requires c =
    let k = fmax c.args.image.now in
    let headers = c.args.headers.now in
    let now = clear c.args.image.now headers _ c.args.v c.requires.0.1 c.clear_first.ensures in
    (c.requires.0, c.requires.1, omega (arith, ap length now, tallied-length [] 1 k headers c.requires.2, c.requires.2), tallied-still [] 1 k headers _ now)

pub returns : goal.returns
returns c =
    let image = c.args.image.now in
    let headers = c.args.headers.now in
    let now = clear image headers _ c.args.v c.requires.0.1 c.clear_first.ensures in
    c.raise_links.ensures ∙ ap (tallied (linked image) 1 (fmax image)) now ∙ tallied-again (linked image) [] 1 (fmax image) headers
