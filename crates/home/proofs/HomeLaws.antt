-- Laws of the home block and of the home positions.
use mathlib.Core.Path.{◌≡◌, refl, sym, ap, ◌∙◌}
use mathlib.Core.Bool.{Bool, true, false, not, ◌&&◌, ◌||◌, and-true, and-false}
use mathlib.Core.List.{List}
use Prim.Native.Nat.{ℕ, zero, suc, ◌*◌, ◌≤◌, ◌<◌, ◌+◌, ◌/◌}
use native.Mathlib.Omega.{arith}
use lib.Dec.{eqb}
use lib.ListN.{length, get_or, take, drop, length-take, length-drop}
use lib.Seq.{ext_get_or, get_or-take, get_or-drop}
use borrow.Author.Tests.{eqb-true, eq-eqb}
use Rattle.std.specs.Bool.{nat_eq}
use Rattle.std.specs.Cmp.Lexicographic.{pointwise, same_text, other_text}
use Rattle.lists.proofs.BelowLaws.{below_all, below_at}
use Rattle.image.specs.Words.{byte_at}
use native.Mathlib.Decide.{ℕ_discrete}
use Rattle.lists.specs.First.{first, below}
use Rattle.image.specs.Words.{word_at}
use Rattle.image.specs.Sums.{checksum}
use Rattle.home.specs.Home.{h_ibsz, h_iblb, h_fmax, h_sbcl, h_vlev, indf, indf_at, is_home, blocks, position, positions, home_at, home_index, home}

-- Position i is 1 or 256 · i, and those that are counted lie below N.
pub position_first : position 0 ≡ 1
unfolding position
position_first = refl

pub position_later : (i : ℕ) → 0 < i → position i ≡ 256 * i
unfolding position
position_later zero h = absurd (omega arith)
position_later (suc i) h = refl

pub position-below : (n i : ℕ) → 2 ≤ n → i < positions n → position i < n
unfolding positions
position-below n zero most h = omega (arith, position_first)
position-below n (suc i) most h = omega (arith, position_later (suc i) (omega arith))

-- N of an image that has a whole number of blocks.
pub blocks-of : (image : List ℕ) (n : ℕ) → length image ≡ 512 * n → blocks image ≡ n
unfolding blocks
blocks-of image n e = omega arith

-- The tests of a home block in the order in which they are cheap.
reordered : (a b c d e f g h : Bool) → (a && b && c && d && e && f && g && h) ≡ ((c && d && e && f && g) && (h && (b && a)))
reordered true true c d e f g h = rw (and-true h)
reordered true false c d e f g h = rw (and-false h, and-false (c && d && e && f && g))
reordered false b c d e f g h = rw (and-false b, and-false h, and-false (c && d && e && f && g))

pub is_home_by : (b : List ℕ)
    → is_home b ≡ ((not (eqb (h_ibsz b) 0) && not (eqb (h_iblb b) 0) && not (eqb (h_fmax b) 0) && eqb (h_sbcl b) 1 && (eqb (h_vlev b) 257 || eqb (h_vlev b) 258))
    && (below 12 (indf_at b) && (eqb (checksum b 29) (word_at b 58) && eqb (checksum b 255) (word_at b 510))))
unfolding is_home
is_home_by b =
    reordered (eqb (checksum b 255) (word_at b 510)) (eqb (checksum b 29) (word_at b 58)) (not (eqb (h_ibsz b) 0)) (not (eqb (h_iblb b) 0)) (not (eqb (h_fmax b) 0))
    (eqb (h_sbcl b) 1) (eqb (h_vlev b) 257 || eqb (h_vlev b) 258) (below 12 (indf_at b))

-- The search, where N is known.
pub home_index_by : (image : List ℕ) (n : ℕ) → length image ≡ 512 * n → home_index image ≡ first (home_at image) 0 (positions n)
unfolding home_index
home_index_by image n e = ap (λ (n : ℕ). first (home_at image) 0 (positions n)) (blocks-of image n e)

-- Which position is the home's.
pub home-index : (image : List ℕ) → home image / 256 ≡ home_index image
unfolding home
home-index image = go (ℕ_discrete (home_index image) 0)
  where
    go : Dec (home_index image ≡ 0) → position (home_index image) / 256 ≡ home_index image
    go (yes z) = rw (z, position_first) refl
    go (no n) = omega (arith, position_later (home_index image) (omega arith))

-- Position i lies before block 256 (i + 1).
pub position-most : (i : ℕ) → position i < 256 * (i + 1)
position-most zero = omega (arith, position_first)
position-most (suc i) = omega (arith, position_later (suc i) (omega arith))

-- How many positions a volume has at most.
pub passed-most : (n : ℕ) → 256 * positions n ≤ n + 255
unfolding positions
passed-most n = omega arith

-- H.INDF, as its twelve bytes at once and as one after the other.
pub starts_with-indf : (b : List ℕ) → length b ≡ 512 → pointwise nat_eq indf (take 12 (drop 496 b)) ≡ below 12 (indf_at b)
unfolding indf indf_at
starts_with-indf b long = go (pointwise nat_eq indf (take 12 (drop 496 b))) refl (below 12 (indf_at b)) refl
  where
    byte : (k : ℕ) → k < 12 → get_or (take 12 (drop 496 b)) k 0 ≡ byte_at b (496 + k)
    byte k l = get_or-take 12 (drop 496 b) k 0 l ∙ get_or-drop 496 b k 0

    go : (p : Bool) → pointwise nat_eq indf (take 12 (drop 496 b)) ≡ p → (q : Bool) → below 12 (indf_at b) ≡ q → p ≡ q
    go true e true f = refl
    go false e false f = refl
    go true e false f =
        let same : indf ≡ take 12 (drop 496 b) = same_text indf (take 12 (drop 496 b)) (sym e) in
        sym (below_all 12 (indf_at b) (λ k l. eq-eqb _ _ (sym (byte k l) ∙ ap (λ (xs : List ℕ). get_or xs k 0) (sym same)))) ∙ f
    go false e true f =
        absurd (other_text indf (take 12 (drop 496 b)) (sym e)
        (ext_get_or 0 indf (take 12 (drop 496 b)) (simp (length-take, length-drop) (omega arith))
        (λ k l. sym (byte k l ∙ eqb-true _ _ (below_at 12 (indf_at b) f k l)))))
