-- A second mark tells the blocks of file 3 apart, since none is marked twice; capped at 1 the marks are what they were.
use Rattle.std.specs.Prelude.{Ok}
use mathlib.Core.Path.{◌≡◌, refl, sym, ap, ap₂, ◌∙◌}
use mathlib.Core.List.{List, ◌++◌}
use Prim.Native.Nat.{ℕ, ◌/◌, ◌≤◌, ◌<◌}
use native.Mathlib.Omega.{arith}
use borrow.Author.Tests.{eq-eqb, ne_eqb}
use lib.ListN.{length, get_or}
use Rattle.lists.specs.First.{first}
use Rattle.answer.specs.Outcome.{unless}
use Rattle.volume.specs.declared.Volume.{Volume}
use Rattle.volume.specs.Volume.{volume_of}
use Rattle.volume.specs.Opening.{open_volume}
use Rattle.files.specs.Files.{files}
use Rattle.links.specs.Links.{links}
use Rattle.home.specs.Home.{blocks, home_index}
use Rattle.volume.proofs.VolumeLaws.{opens, says, home_below}
use Rattle.chains.specs.Chains.{file_blocks}
use Rattle.lists.specs.Counts.{count, In}
use Rattle.marks.specs.Marks.{tallied, raised_by, lowered}
use Rattle.lists.proofs.CountLaws.{count_at, in-below}
use Rattle.slots.proofs.SlotLaws.{used-range}
use Rattle.links.proofs.LinksLaws.{links-passed}
use Rattle.covers.specs.Covered.{covered, twice}
use Rattle.bad_home.specs.Homes.{bad_home_index, bad_home, unmarked}
use Rattle.covers.proofs.CoverLaws.{passes, covered-below, file-covered}
use Rattle.covers.proofs.MarkedLaws.{covered-once}
use Rattle.home.proofs.HomeLaws.{home-index, passed-most}
use Rattle.bad_home.proofs.HomesLaws.{bad-home-none, raised-file, unmarked-file, lowered-file}
use Rattle.bad_home.proofs.RaiseLaws.{three-used}
use Rattle.bad_home.proofs.bad_home.Goals as goal

module _ (image : List ℕ) (v : Volume) (is : v ≡ volume_of image) where
  total : v.blocks ≡ blocks image
  total = (says image v is).blocks

  index : v.home.0 / 256 ≡ home_index image
  index = ap (λ (k : ℕ). k / 256) (says image v is).home ∙ home-index image

module _ (image area : List ℕ) (o : open_volume image ≡ Ok tt) (f : files image ≡ Ok tt) (l : links image ≡ Ok tt) (t : twice image ≡ Ok tt)
    (marks : area ≡ tallied (covered image) 0 (blocks image) area) where
  once : (j : ℕ) → j < blocks image → count j (covered image) ≤ 1
  once = covered-once image t

  mine : (j : ℕ) → In j (file_blocks image 3) → In j (covered image)
  mine j i = file-covered image (links-passed image l).good (used-range image) 3 j (three-used image o f) i

  inside : (i : ℕ) → i < length (file_blocks image 3) → get_or (file_blocks image 3) i 0 < blocks image
  inside i h =
      in-below (blocks image) (covered image) (covered-below image (passes image o f).whole) (get_or (file_blocks image 3) i 0)
      (mine (get_or (file_blocks image 3) i 0) (count_at (file_blocks image 3) i h))

  to_both : raised_by area (file_blocks image 3) ≡ tallied (covered image ++ file_blocks image 3) 0 (blocks image) area
  to_both = ap (λ (m : List ℕ). raised_by m (file_blocks image 3)) marks ∙ raised-file image area (opens image o) once mine inside

  -- What was found is the place of BADHOME.
  found : (raised : List ℕ) (n i : ℕ) → raised ≡ raised_by area (file_blocks image 3) → n ≡ home_index image → first (unmarked raised) 0 n ≡ i → i ≡ bad_home_index image
  found raised n i r e q =
      sym q
      ∙ ap (λ (m : List ℕ). first (unmarked m) 0 n) (r ∙ to_both)
      ∙ ap (first (unmarked (tallied (covered image ++ file_blocks image 3) 0 (blocks image) area)) 0) e
      ∙ unmarked-file image area (opens image o) once mine inside

  -- Capped at 1, the marks are what they were.
  restored : (raised new : List ℕ) (k : ℕ) → raised ≡ raised_by area (file_blocks image 3) → k ≡ blocks image → new ≡ lowered raised k → new ≡ area
  restored raised new k r e q = q ∙ ap₂ lowered (r ∙ to_both) e ∙ lowered-file image area (opens image o) once mine inside ∙ sym marks

pub returns-then-count-eq0 : goal.returns-then-count-eq0
returns-then-count-eq0 c =
    (sym (bad-home-none _ (omega (arith, index _ c.args.v c.requires.0.1))), refl)

pub first_unmarked-unmarked-requires : goal.first_unmarked-unmarked-requires
first_unmarked-unmarked-requires c =
    let image : List ℕ = c.args.image.now in
    let p = c.requires in
    let o = opens image p.0.0 in (
      omega (arith, c.raise_chain.auto.area, p.4, home_below o, (says image c.args.v p.0.1).home),
      omega (arith, index image c.args.v p.0.1, o.found, o.most, passed-most (blocks image)),
    )

pub lower_first-requires : goal.lower_first-requires
lower_first-requires c = omega (arith, c.raise_chain.auto.area, c.requires.4, total _ c.args.v c.requires.0.1)

pub returns-in-Some : goal.returns-in-Some
unfolding bad_home unless
returns-in-Some c =
    let image : List ℕ = c.args.image.now in
    let area : List ℕ = c.args.area.now in
    let p = c.requires in
    let n = index image c.args.v p.0.1 in
    let i = found image area p.0.0 p.1 p.2 p.3 p.5 _ _ _ c.raise_chain.ensures n c.in-Some.ensures.0 in (
      rw (ne_eqb (bad_home_index image) (home_index image) (omega arith), ← i, c.position.ensures) refl,
      restored image area p.0.0 p.1 p.2 p.3 p.5 _ _ _ c.raise_chain.ensures (total image c.args.v p.0.1) c.lower_first.ensures,
    )

pub returns-in-None : goal.returns-in-None
unfolding bad_home unless
returns-in-None c =
    let image : List ℕ = c.args.image.now in
    let area : List ℕ = c.args.area.now in
    let p = c.requires in
    let n = index image c.args.v p.0.1 in
    let i = found image area p.0.0 p.1 p.2 p.3 p.5 _ _ _ c.raise_chain.ensures n c.in-None.ensures in (
      rw (eq-eqb (bad_home_index image) (home_index image) (omega arith)) refl,
      restored image area p.0.0 p.1 p.2 p.3 p.5 _ _ _ c.raise_chain.ensures (total image c.args.v p.0.1) c.lower_first.ensures,
    )
