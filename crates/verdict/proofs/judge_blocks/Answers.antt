-- The rules one after the other; the marks are those of cover, which BADHOME leaves as they are.
use mathlib.Core.Path.{◌≡◌, sym, ap, ◌∙◌}
use mathlib.Core.List.{List}
use Prim.Native.Nat.{ℕ, ◌≤◌}
use native.Mathlib.Omega.{arith}
use lib.ListN.{length}
use Rattle.answer.specs.Outcome.{◌then◌}
use Rattle.home.specs.Home.{blocks}
use Rattle.marks.specs.Marks.{tallied}
use Rattle.marks.proofs.MarkLaws.{tallied-length}
use Rattle.links.proofs.LinksLaws.{tallied-still}
use Rattle.covers.specs.Covered.{covered}
use Rattle.verdict.proofs.judge_blocks.Goals as goal

-- An area that holds the marks.
marks-fit : (image area new : List ℕ) → blocks image ≤ length area → new ≡ tallied (covered image) 0 (blocks image) area
    → (blocks image ≤ length new) × (new ≡ tallied (covered image) 0 (blocks image) new)
marks-fit image area new room e = (
  omega (arith, ap length e, tallied-length (covered image) 0 (blocks image) area room, room),
  tallied-still (covered image) 0 (blocks image) area new e,
)

pub twice-requires : goal.twice-requires
twice-requires c =
    let p = c.requires in
    let m = marks-fit _ c.args.area.now _ p.3 c.cover.ensures in
    ((p.0.0, p.0.1), m.0, m.1)

pub bad_home-requires : goal.bad_home-requires
bad_home-requires c =
    let p = c.requires in
    let m = marks-fit _ c.args.area.now _ p.3 c.cover.ensures in
    (p.0, p.1, p.2, sym c.in_ok-twice.ensures, m.0, m.1)

pub bad_map-requires : goal.bad_map-requires
bad_map-requires c =
    let p = c.requires in
    let m = marks-fit _ c.args.area.now _ p.3 (c.bad_home.ensures.1 ∙ c.cover.ensures) in
    ((p.0.0, p.0.1), m.0, m.1)

pub returns-in_err-twice : goal.returns-in_err-twice
unfolding ◌then◌
returns-in_err-twice c = (grind arith, c.cover.ensures)

pub returns-in_err-bad_home : goal.returns-in_err-bad_home
unfolding ◌then◌
returns-in_err-bad_home c = (grind arith, c.bad_home.ensures.1 ∙ c.cover.ensures)

pub returns : goal.returns
unfolding ◌then◌
returns c = (grind arith, c.bad_home.ensures.1 ∙ c.cover.ensures)
