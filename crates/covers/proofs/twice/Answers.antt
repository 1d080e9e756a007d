-- The lowest mark 2 is the lowest block that is covered twice.
use mathlib.Core.Path.{◌≡◌, ap, ◌∙◌}
use mathlib.Core.List.{List}
use Prim.Native.Nat.{ℕ}
use native.Mathlib.Omega.{arith}
use borrow.Author.Tests.{eq-eqb, ne_eqb}
use Rattle.lists.specs.First.{first}
use Rattle.answer.specs.Outcome.{unless}
use Rattle.home.specs.Home.{blocks}
use Rattle.volume.specs.declared.Volume.{Volume}
use Rattle.volume.specs.Opening.{Open}
use Rattle.volume.proofs.VolumeLaws.{opens, says}
use Rattle.marks.specs.Marks.{tallied, marked_twice}
use Rattle.covers.specs.Covered.{covered, twice_place, twice}
use Rattle.covers.proofs.MarkedLaws.{twice-marked}
use Rattle.covers.proofs.twice.Goals as goal

-- What is found is the place of TWICE.
at : (image area : List ℕ) (v : Volume) → Open image v → area ≡ tallied (covered image) 0 (blocks image) area → first (marked_twice area) 0 v.blocks ≡ twice_place image
at image area v o marks = ap (first (marked_twice area) 0) (says image v o.1).blocks ∙ twice-marked image area marks

pub first_twice-requires : goal.first_twice-requires
first_twice-requires c = omega (arith, c.requires.1, (says _ c.args.v c.requires.0.1).blocks)

pub overflow_cast-result : goal.overflow_cast-result
overflow_cast-result c =
    let total = (says _ c.args.v c.requires.0.1).blocks in
    omega (arith, c.in-Some.ensures, total, (opens _ c.requires.0.0).most)

pub returns-in-None : goal.returns-in-None
unfolding twice unless
returns-in-None c =
    let total = (says _ c.args.v c.requires.0.1).blocks in
    let is = at c.args.image.now c.args.area.now c.args.v c.requires.0 c.requires.2 in
    rw (eq-eqb (twice_place c.args.image.now) (blocks c.args.image.now) (omega (arith, is, total, c.in-None.ensures)))

pub returns-in-Some : goal.returns-in-Some
unfolding twice unless
returns-in-Some c =
    let total = (says _ c.args.v c.requires.0.1).blocks in
    let is = at c.args.image.now c.args.area.now c.args.v c.requires.0 c.requires.2 in
    rw (ne_eqb (twice_place c.args.image.now) (blocks c.args.image.now) (omega (arith, is, total, c.in-Some.ensures)), ← is, c.in-Some.ensures.0)
