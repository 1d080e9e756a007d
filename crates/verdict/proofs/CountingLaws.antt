-- The verdict's counts, by the marks and by the maps that are read.
use mathlib.Core.Path.{◌≡◌, sym, ap, ap₂, ◌∙◌}
use mathlib.Core.Bool.{Bool}
use mathlib.Core.List.{List}
use Prim.Native.Nat.{ℕ, zero, suc, ◌+◌, ◌*◌, ◌<◌}
use native.Mathlib.Numerals.{add-one}
use native.Mathlib.Omega.{arith}
use lib.Dec.{eqb, leb}
use lib.ListN.{length}
use Rattle.image.specs.Bits.{bit_at, is_set}
use Rattle.home.specs.Home.{blocks}
use Rattle.volume.specs.Volume.{fmax, index_map, in_use, map_blocks, storage_map, map_bits}
use Rattle.volume.proofs.VolumeLaws.{Opens, storage_map-length}
use Rattle.lists.specs.Counts.{one_if, count, how_many}
use Rattle.marks.specs.Marks.{tallied, marked}
use Rattle.lists.proofs.CountLaws.{how_many-none, how_many-more, how_many-same}
use Rattle.marks.proofs.MarkLaws.{tallied-marked}
use Rattle.slots.proofs.SlotLaws.{in-use-bit}
use Rattle.covers.specs.Covered.{covered}
use Rattle.verdict.specs.Verdict.{is_covered, claimed, free, headers_in_use}

pub claimed-marked : (image area : List ℕ) → area ≡ tallied (covered image) 0 (blocks image) area → how_many (marked area) 0 (blocks image) ≡ claimed image
unfolding claimed is_covered
claimed-marked image area marks =
    how_many-same (marked area) (is_covered (covered image)) 0 (blocks image)
    (λ j a l. ap (λ (m : List ℕ). marked m j) marks ∙ tallied-marked (covered image) 0 (blocks image) area j (omega arith) ∙ ap (λ (k : ℕ). leb 1 (count k (covered image))) (omega arith))

pub free-read : (image map : List ℕ) → Opens image → map ≡ storage_map image → how_many (is_set map) 0 (8 * length map) ≡ free image
unfolding free map_bits
free-read image map o e =
    let bits : 8 * length map ≡ 4096 * map_blocks (blocks image) = omega (arith, ap length e, storage_map-length o) in
    ap₂ (λ (m : List ℕ) (k : ℕ). how_many (is_set m) 0 k) e bits

-- A count of the numbers from one on is one of those from another on.
how_many-shift : (p q : ℕ → Bool) (s t d : ℕ) → ((i : ℕ) → i < d → p (s + i) ≡ q (t + i)) → how_many p s d ≡ how_many q t d
how_many-shift p q s t zero h = how_many-none p s ∙ sym (how_many-none q t)
how_many-shift p q s t (suc d) h =
    rw (← add-one d)
    (how_many-more p s d ∙ ap₂ (λ (k : ℕ) (b : Bool). k + one_if b) (how_many-shift p q s t d (λ i l. h i (omega arith))) (h d (omega arith)) ∙ sym (how_many-more q t d))

pub headers-read : (image : List ℕ) → how_many (is_set (index_map image)) 0 (fmax image) ≡ headers_in_use image
unfolding headers_in_use is_set
headers-read image =
    how_many-shift (is_set (index_map image)) (in_use image) 0 1 (fmax image)
    (λ i l. ap (λ (k : ℕ). eqb (bit_at (index_map image) k) 1) (omega arith) ∙ sym (in-use-bit image (1 + i) (omega arith) (omega arith)))
