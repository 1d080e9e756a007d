-- Cleared marks are those of no block; each block that is covered then raises its own.
use mathlib.Core.Path.{◌≡◌, ap, ◌∙◌}
use mathlib.Core.List.{List, []}
use Prim.Native.Nat.{ℕ}
use native.Mathlib.Omega.{arith}
use Rattle.home.specs.Home.{blocks}
use Rattle.volume.proofs.VolumeLaws.{says}
use Rattle.marks.specs.Marks.{cleared, raised_by}
use Rattle.marks.proofs.MarkLaws.{cleared-tallied, tallied-by}
use Rattle.covers.specs.Covered.{covered}
use Rattle.covers.proofs.CoverLaws.{passes, covered-below}
use Rattle.covers.proofs.cover.Goals as goal

pub clear_first-requires : goal.clear_first-requires
clear_first-requires c =
    let total : c.args.v.blocks ≡ blocks c.args.image.now =
    (says c.args.image.now c.args.v c.requires.0.1).blocks in
    omega (arith, c.requires.2, total)

pub returns : goal.returns
returns c =
    let total : c.args.v.blocks ≡ blocks c.args.image.now =
    (says c.args.image.now c.args.v c.requires.0.1).blocks in
    let image = c.args.image.now in
    let area = c.args.area.now in
    c.raise_headers.ensures
    ∙ ap (λ (m : List ℕ). raised_by m (covered image)) (c.clear_first.ensures ∙ ap (cleared area) (total) ∙ cleared-tallied 0 (blocks image) area)
    ∙ tallied-by [] (covered image) (blocks image) area (covered-below image (passes image c.requires.0.0 c.requires.1).whole)
