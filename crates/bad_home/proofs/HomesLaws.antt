-- BADHOME by the marks: the blocks of file 3 are told apart by a second mark.
use Rattle.std.specs.Prelude.{Ok}
use mathlib.Core.Path.{◌≡◌, refl, ap, ◌∙◌}
use mathlib.Core.Bool.{not}
use mathlib.Core.List.{List, ◌++◌}
use Prim.Native.Nat.{ℕ, ◌+◌, ◌≤◌, ◌<◌, min}
use native.Mathlib.Decide.{ℕ_discrete, dec_lt}
use native.Mathlib.Omega.{arith}
use borrow.Author.Tests.{eq-eqb, ne_eqb, le-leb, lt-leb}
use lib.Dec.{eqb, leb}
use lib.ListN.{length, get_or}
use Rattle.lists.specs.First.{first}
use Rattle.lists.proofs.FirstLaws.{first-same}
use Rattle.lists.specs.Counts.{count, In}
use Rattle.lists.proofs.CountLaws.{count-append}
use Rattle.answer.specs.Outcome.{unless}
use Rattle.home.specs.Home.{blocks, position, home_index}
use Rattle.home.proofs.HomeLaws.{position-below}
use Rattle.volume.proofs.VolumeLaws.{Opens}
use Rattle.chains.specs.Chains.{file_blocks}
use Rattle.marks.specs.Marks.{capped, tallied, raised_by, lowered, marked_twice}
use Rattle.marks.proofs.MarkLaws.{tallied-twice, tallied-by, lowered-tallied}
use Rattle.covers.specs.Covered.{covered}
use Rattle.bad_home.specs.Homes.{left_out, bad_home_index, bad_home, unmarked}

-- The positions below the home are blocks of the volume.
pub passed-below : (image : List ℕ) → Opens image → (i : ℕ) → i < home_index image → position i < blocks image
passed-below image o i l = position-below (blocks image) i (omega (arith, o.least)) (omega (arith, o.found))

-- With a second mark on each block of file 3.
module _ (image area : List ℕ) (o : Opens image) (once : (j : ℕ) → j < blocks image → count j (covered image) ≤ 1)
    (mine : (j : ℕ) → In j (file_blocks image 3) → In j (covered image)) (below : (i : ℕ) → i < length (file_blocks image 3) → get_or (file_blocks image 3) i 0 < blocks image) where
  pub raised-file : raised_by (tallied (covered image) 0 (blocks image) area) (file_blocks image 3) ≡ tallied (covered image ++ file_blocks image 3) 0 (blocks image) area
  raised-file = tallied-by (covered image) (file_blocks image 3) (blocks image) area below

  both : (j : ℕ) → count j (covered image ++ file_blocks image 3) ≡ count j (covered image) + count j (file_blocks image 3)
  both j = count-append j (covered image) (file_blocks image 3)

  -- A position is marked twice exactly where it is a block of file 3.
  pub unmarked-file : first (unmarked (tallied (covered image ++ file_blocks image 3) 0 (blocks image) area)) 0 (home_index image) ≡ bad_home_index image
  unfolding bad_home_index left_out unmarked
  unmarked-file = first-same (unmarked marks) (left_out (file_blocks image 3)) 0 (home_index image) (λ i a l. at i (passed-below image o i (omega arith)))
    where
      marks : List ℕ
      marks = tallied (covered image ++ file_blocks image 3) 0 (blocks image) area

      at : (i : ℕ) → position i < blocks image → not (marked_twice marks (position i)) ≡ eqb (count (position i) (file_blocks image 3)) 0
      at i l =
          ap not (tallied-twice (covered image ++ file_blocks image 3) 0 (blocks image) area (position i) l ∙ ap (λ (k : ℕ). leb 2 (count k (covered image ++ file_blocks image 3))) (omega arith))
          ∙ go (ℕ_discrete (count (position i) (file_blocks image 3)) 0)
        where
          p : ℕ
          p = position i

          go : Dec (count p (file_blocks image 3) ≡ 0) → not (leb 2 (count p (covered image ++ file_blocks image 3))) ≡ eqb (count p (file_blocks image 3)) 0
          go (yes z) = rw (lt-leb 2 (count p (covered image ++ file_blocks image 3)) (omega (arith, both p, once p l)), eq-eqb (count p (file_blocks image 3)) 0 z)
          go (no n) = rw (le-leb 2 (count p (covered image ++ file_blocks image 3)) (omega (arith, both p, mine p (omega arith))), ne_eqb (count p (file_blocks image 3)) 0 n)

  -- Capped at 1, the marks are what they were.
  pub lowered-file : lowered (tallied (covered image ++ file_blocks image 3) 0 (blocks image) area) (blocks image) ≡ tallied (covered image) 0 (blocks image) area
  unfolding capped
  lowered-file = lowered-tallied (covered image) (covered image ++ file_blocks image 3) (blocks image) area (λ j l. at j l (dec_lt 0 (count j (file_blocks image 3))))
    where
      at : (j : ℕ) → j < blocks image → Dec (0 < count j (file_blocks image 3)) → min 1 (min 2 (count j (covered image ++ file_blocks image 3))) ≡ min 2 (count j (covered image))
      at j l (yes f) = omega (arith, both j, once j l, mine j f)
      at j l (no f) = omega (arith, both j, once j l)

-- With the home at the first position none is passed over.
pub bad-home-none : (image : List ℕ) → home_index image ≡ 0 → bad_home image ≡ Ok tt
unfolding bad_home bad_home_index first unless
bad-home-none image z = rw z refl
