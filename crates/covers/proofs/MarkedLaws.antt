-- Laws of an area that holds the block marks: TWICE and MAP by the marks, and BADHOME by the marks of file 3's blocks.
use Rattle.std.specs.Prelude.{Ok}
use mathlib.Core.Path.{◌≡◌, ap, ap₂, ◌∙◌}
use mathlib.Core.Bool.{Bool, not, ◌&&◌}
use mathlib.Core.List.{List}
use Prim.Native.Nat.{ℕ, ◌≤◌, ◌<◌}
use native.Mathlib.Decide.{dec_lt}
use native.Mathlib.Omega.{arith}
use borrow.Author.Tests.{eqb-true, le-ltb, leb-false}
use lib.Dec.{eqb, leb, ltb}
use Rattle.lists.specs.First.{first}
use Rattle.lists.proofs.FirstLaws.{first-same, first-has}
use Rattle.lists.specs.Counts.{one_if, count}
use Rattle.image.specs.Words.{byte_at}
use Rattle.image.specs.Bits.{bit_at}
use Rattle.image.specs.Blocks.{region}
use Rattle.answer.proofs.OutcomeLaws.{passed-last}
use Rattle.home.specs.Home.{blocks}
use Rattle.volume.specs.declared.Volume.{Volume}
use Rattle.volume.specs.Volume.{map_blocks, storage_map, map_bits}
use Rattle.volume.specs.Opening.{Open}
use Rattle.volume.proofs.VolumeLaws.{says, says-base}
use Rattle.marks.specs.Marks.{tallied, marked_twice}
use Rattle.marks.proofs.MarkLaws.{tallied-twice, tallied-clear}
use Rattle.map_marks.specs.Wanted.{unlike_marks}
use Rattle.covers.specs.Covered.{covered, covered_twice, twice_place, twice, wrong_bit, map_place}

module _ (image area : List ℕ) (marks : area ≡ tallied (covered image) 0 (blocks image) area) where
  pub twice-marked : first (marked_twice area) 0 (blocks image) ≡ twice_place image
  unfolding twice_place covered_twice
  twice-marked =
      first-same (marked_twice area) (covered_twice (covered image)) 0 (blocks image)
      (λ j a l. ap (λ (m : List ℕ). marked_twice m j) marks ∙ tallied-twice (covered image) 0 (blocks image) area j (omega arith) ∙ ap (λ (k : ℕ). leb 2 (count k (covered image))) (omega arith))

  clear-marked : (j : ℕ) → (ltb j (blocks image) && eqb (byte_at area j) 0) ≡ (ltb j (blocks image) && eqb (count j (covered image)) 0)
  clear-marked j = go (dec_lt j (blocks image))
    where
      go : Dec (j < blocks image) → (ltb j (blocks image) && eqb (byte_at area j) 0) ≡ (ltb j (blocks image) && eqb (count j (covered image)) 0)
      go (yes l) =
          ap (λ (b : Bool). ltb j (blocks image) && b)
          (ap (λ (m : List ℕ). eqb (byte_at m j) 0) marks ∙ tallied-clear (covered image) 0 (blocks image) area j l ∙ ap (λ (k : ℕ). eqb (count k (covered image)) 0) (omega arith))
      go (no l) = rw (le-ltb j (blocks image) (omega arith))

  pub map-marked : first (unlike_marks (storage_map image) area (blocks image)) 0 (map_bits (blocks image)) ≡ map_place image
  unfolding map_place unlike_marks wrong_bit
  map-marked =
      first-same (unlike_marks (storage_map image) area (blocks image)) (wrong_bit (storage_map image) (covered image) (blocks image)) 0 (map_bits (blocks image))
      (λ j a l. ap (λ (b : Bool). not (eqb (bit_at (storage_map image) j) (one_if b))) (clear-marked j))

-- Where TWICE is passed, no block is covered twice.
pub covered-once : (image : List ℕ) → twice image ≡ Ok tt → (j : ℕ) → j < blocks image → count j (covered image) ≤ 1
unfolding twice twice_place covered_twice
covered-once image e j l =
    let end = eqb-true (first (covered_twice (covered image)) 0 (blocks image)) (blocks image) (passed-last _ _ e) in
    let h = first-has (covered_twice (covered image)) 0 (blocks image) in
    omega (arith, leb-false 2 (count j (covered image)) (h.before j (omega arith) (omega arith)))

-- The blocks that are read as the storage map.
pub map-read : (image : List ℕ) (v : Volume) (q : ℕ) (bits : List ℕ) → Open image v → q ≡ map_blocks v.blocks → bits ≡ region image v.base.0 q → bits ≡ storage_map image
unfolding storage_map
map-read image v q bits o e b = b ∙ ap₂ (region image) (says-base image v o.1) (e ∙ ap map_blocks (says image v o.1).blocks)
