-- Laws of the headers of numbers that are in use and have a slot, on a volume that opens.
use Rattle.std.specs.Prelude.{Ok}
use mathlib.Core.Path.{◌≡◌}
use mathlib.Core.Bool.{true, ◌&&◌, and-eq-true_iff}
use mathlib.Core.List.{List}
use Prim.Native.Nat.{ℕ, ◌-◌, ◌≤◌}
use native.Mathlib.Omega.{arith}
use borrow.Author.Tests.{leb-true}
use lib.Dec.{leb, eqb}
use lib.ListN.{length}
use Rattle.image.specs.Words.{Bytes}
use Rattle.image.specs.Bits.{bit_at}
use Rattle.image.proofs.BlockLaws.{block-bytes}
use Rattle.header.specs.Fields.{map_area, segment}
use Rattle.pointers.specs.Pointers.{Fits}
use Rattle.whole.proofs.WholeLaws.{whole-fits}
use Rattle.home.specs.Home.{blocks}
use Rattle.volume.specs.Volume.{fmax, index_map, slot, slots, has_slot, header, fault_of, in_use, is_number}
use Rattle.volume.specs.Opening.{open_volume}
use Rattle.volume.proofs.VolumeLaws.{opens, header-length}

-- A segment number is a byte.
pub segment-most : (image : List ℕ) (n : ℕ) → Bytes image → segment (header image n) ≤ 255
unfolding header segment
segment-most image n bytes = omega (arith, (block-bytes image (slot image n) bytes).each (map_area (header image n)))

module _ (image : List ℕ) (n : ℕ) (h : is_number image n ≡ true) where
  both : (in_use image n ≡ true) × (has_slot image n ≡ true)
  unfolding is_number
  both = (and-eq-true_iff (in_use image n) (has_slot image n)).0 h

  pub number-slot : has_slot image n ≡ true
  number-slot = both.1

  pub number-low : 1 ≤ n
  unfolding in_use
  number-low =
      leb-true 1 n
      ((and-eq-true_iff (leb 1 n) (leb n (fmax image))).0 ((and-eq-true_iff (leb 1 n && leb n (fmax image)) (eqb (bit_at (index_map image) (n - 1)) 1)).0 both.0).0).0

  pub number-high : n ≤ slots image
  unfolding has_slot
  number-high = leb-true n (slots image) both.1

  pub number-length : open_volume image ≡ Ok tt → length (header image n) ≡ 512
  number-length o = header-length (opens image o) n number-low number-high

  pub number_fits : open_volume image ≡ Ok tt → fault_of image n ≡ 0 → Fits (header image n)
  unfolding fault_of
  number_fits o w = whole-fits (blocks image) n (header image n) (number-length o) w
