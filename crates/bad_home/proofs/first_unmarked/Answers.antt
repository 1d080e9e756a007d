-- The mark of each position before i is 2.
use mathlib.Core.Path.{◌≡◌, refl, ◌∙◌}
use mathlib.Core.Bool.{true, false}
use mathlib.Core.List.{List}
use Prim.Native.Nat.{ℕ, ◌≤◌, ◌<◌}
use native.Mathlib.Omega.{arith}
use borrow.Author.Tests.{le-leb, lt-leb}
use Rattle.image.specs.Words.{byte_at}
use Rattle.lists.proofs.FirstLaws.{first-here, first_on, first-none}
use Rattle.home.specs.Home.{position}
use Rattle.marks.specs.Marks.{marked_twice}
use Rattle.bad_home.specs.Homes.{unmarked}
use Rattle.home.proofs.HomeLaws.{position-most}
use Rattle.bad_home.proofs.first_unmarked.Goals as goal

-- The test, by the mark that was read.
unmarked-is : (area : List ℕ) (i p : ℕ) → p ≡ position i → byte_at area p < 2 → unmarked area i ≡ true
unfolding unmarked marked_twice
unmarked-is area i p e l = rw (← e, lt-leb 2 (byte_at area p) l) refl

marked-is : (area : List ℕ) (i p : ℕ) → p ≡ position i → 2 ≤ byte_at area p → unmarked area i ≡ false
unfolding unmarked marked_twice
marked-is area i p e l = rw (← e, le-leb 2 (byte_at area p) l) refl

pub bounds-area-position : goal.bounds-area-position
bounds-area-position c =
    omega (arith, c.position.ensures, position-most c.loop-i.i, c.requires.0)

pub returns-then-area-position-lt2 : goal.returns-then-area-position-lt2
returns-then-area-position-lt2 c =
    let a = c.args in
    (c.loop-i.invariant ∙ first-here (unmarked a.area.now) c.loop-i.i a.count (omega arith) (unmarked-is a.area.now c.loop-i.i _ c.position.ensures c.if-area-position-lt2.true), omega arith)

pub loop-i-preserved : goal.loop-i-preserved
loop-i-preserved c =
    let a = c.args in
    c.loop-i.invariant ∙ first_on (unmarked a.area.now) c.loop-i.i a.count (omega arith) (marked-is a.area.now c.loop-i.i _ c.position.ensures c.if-area-position-lt2.false)

pub returns : goal.returns
returns c =
    let a = c.args in
    let e : c.loop-i.i ≡ a.count = omega arith in
    c.loop-i.invariant ∙ first-none (unmarked a.area.now) c.loop-i.i a.count (omega arith) ∙ e
