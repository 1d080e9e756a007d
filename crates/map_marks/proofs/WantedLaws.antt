-- Laws of the bits of a map: how many are set, and how they fit the marks.
use mathlib.Core.Path.{◌≡◌, refl, sym, ap, ap₂, ◌∙◌}
use mathlib.Core.Bool.{true, false, not}
use mathlib.Core.List.{List}
use Prim.Native.Nat.{ℕ, zero, suc, ◌+◌, ◌*◌, ◌-◌, ◌/◌, ◌≤◌, ◌<◌}
use native.Mathlib.Nat.{one-mul, add-zero}
use native.Mathlib.Omega.{arith}
use borrow.Author.Tests.{lt-ltb, le-ltb, eq-eqb, ne_eqb}
use lib.Dec.{eqb}
use Rattle.lists.specs.First.{first}
use Rattle.lists.proofs.FirstLaws.{first-start, first-has, first-same, first_found, first_past, first-behind}
use Rattle.lists.specs.Counts.{one_if}
use Rattle.lists.proofs.CountLaws.{one_if-most}
use Rattle.image.specs.Words.{byte_at}
use Rattle.image.specs.Bits.{bit_of, bit_at, is_set}
use Rattle.image.proofs.BitLaws.{bit_below, bit_in}
use Rattle.map_marks.specs.Wanted.{unlike_marks, wanted_bit, wanted_low, wanted_high, wanted_byte}

-- The map against the marks of n blocks: below n, and from n on.
pub unlike-below : (map area : List ℕ) (n j : ℕ) → j < n → unlike_marks map area n j ≡ not (eqb (bit_at map j) (wanted_bit area j))
unfolding unlike_marks wanted_bit
unlike-below map area n j h = rw (lt-ltb j n h)

pub unlike-from : (map area : List ℕ) (n j : ℕ) → n ≤ j → unlike_marks map area n j ≡ is_set map j
unfolding unlike_marks is_set
unlike-from map area n j h = rw (le-ltb j n h) (go (bit_at map j) (bit_below map j))
  where
    go : (b : ℕ) → b < 2 → not (eqb b 0) ≡ eqb b 1
    go zero h = refl
    go (suc zero) h = refl
    go (suc (suc b)) h = absurd (omega arith)

-- The bit that is read and the bit that its mark wants, with the weight 1: they differ, or they are the same.
module _ (map area : List ℕ) (n j b w : ℕ) (inside : j < n) (read : b ≡ bit_at map j) (wants : w ≡ 1 * one_if (eqb (byte_at area j) 0)) where
  pub unlike-is : unlike_marks map area n j ≡ not (eqb b w)
  unfolding wanted_bit
  unlike-is = unlike-below map area n j inside ∙ ap₂ (λ (x y : ℕ). not (eqb x y)) (sym read) (sym (wants ∙ one-mul (one_if (eqb (byte_at area j) 0))))

  pub unlike-true : (b ≡ w → ⊥) → unlike_marks map area n j ≡ true
  unlike-true differ = unlike-is ∙ ap not (ne_eqb b w differ)

  pub unlike-false : b ≡ w → unlike_marks map area n j ≡ false
  unlike-false same = unlike-is ∙ ap not (eq-eqb b w same)

-- The search in two parts: below n, and from n on, where only set bits offend.
module _ (map area : List ℕ) (n end : ℕ) (inside : n ≤ end) where
  pub unlike-found : first (unlike_marks map area n) 0 n < n → first (unlike_marks map area n) 0 end ≡ first (unlike_marks map area n) 0 n
  unlike-found h =
      first-start (unlike_marks map area n) end
      ∙ first_found (unlike_marks map area n) 0 n end inside (rw (← first-start (unlike_marks map area n) n) h)
      ∙ sym (first-start (unlike_marks map area n) n)

  pub unlike-past : n ≤ first (unlike_marks map area n) 0 n → first (unlike_marks map area n) 0 end ≡ first (is_set map) n (end - n)
  unlike-past h =
      let e : first (unlike_marks map area n) 0 (n - 0) ≡ n = rw (← first-start (unlike_marks map area n) n) (omega (arith, (first-has (unlike_marks map area n) 0 n).high)) in
      first-start (unlike_marks map area n) end
      ∙ first_past (unlike_marks map area n) 0 n end inside (rw e (omega arith))
      ∙ rw e (first-same (unlike_marks map area n) (is_set map) n (end - n) (λ i a b. unlike-from map area n i a))

-- A byte that is as its eight marks want it: so is each bit, and the search goes on behind it.
most : (area : List ℕ) (j : ℕ)
    → (wanted_bit area j ≤ 1)
    × (wanted_bit area (j + 1) ≤ 1)
    × (wanted_bit area (j + 2) ≤ 1)
    × (wanted_bit area (j + 3) ≤ 1)
    × (wanted_bit area (j + 4) ≤ 1)
    × (wanted_bit area (j + 5) ≤ 1)
    × (wanted_bit area (j + 6) ≤ 1)
    × (wanted_bit area (j + 7) ≤ 1)
unfolding wanted_bit
most area j = (one j, one (j + 1), one (j + 2), one (j + 3), one (j + 4), one (j + 5), one (j + 6), one (j + 7))
  where
    one : (i : ℕ) → one_if (eqb (byte_at area i) 0) ≤ 1
    one i = one_if-most (eqb (byte_at area i) 0)

wanted-bit : (area : List ℕ) (j k : ℕ) → k < 8 → bit_of (wanted_byte area j) k ≡ wanted_bit area (j + k)
unfolding wanted_byte wanted_low wanted_high bit_of
wanted-bit area j zero h = rw (add-zero j) (omega (arith, most area j))
wanted-bit area j (suc zero) h = omega (arith, most area j)
wanted-bit area j (suc (suc zero)) h = omega (arith, most area j)
wanted-bit area j (suc (suc (suc zero))) h = omega (arith, most area j)
wanted-bit area j (suc (suc (suc (suc zero)))) h = omega (arith, most area j)
wanted-bit area j (suc (suc (suc (suc (suc zero))))) h = omega (arith, most area j)
wanted-bit area j (suc (suc (suc (suc (suc (suc zero)))))) h = omega (arith, most area j)
wanted-bit area j (suc (suc (suc (suc (suc (suc (suc zero))))))) h = omega (arith, most area j)
wanted-bit area j (suc (suc (suc (suc (suc (suc (suc (suc k)))))))) h = absurd (omega arith)

like-bit : (map area : List ℕ) (n i j : ℕ) → byte_at map i ≡ wanted_byte area (8 * i) → 8 * i ≤ j → j < 8 * i + 8 → j < n → unlike_marks map area n j ≡ false
like-bit map area n i j e low high h =
    let k = j - 8 * i in
    let at : 8 * i + k ≡ j = omega arith in
    let same : bit_at map (8 * i + k) ≡ wanted_bit area (8 * i + k) = bit_in map i k (omega arith) ∙ ap (λ (b : ℕ). bit_of b k) e ∙ wanted-bit area (8 * i) k (omega arith) in
    unlike-below map area n j h ∙ ap not (eq-eqb (bit_at map j) (wanted_bit area j) (rw at at same))

pub like-byte : (map area : List ℕ) (n i : ℕ) → i < n / 8 → byte_at map i ≡ wanted_byte area (8 * i)
    → first (unlike_marks map area n) (8 * i) (n - 8 * i) ≡ first (unlike_marks map area n) (8 * (i + 1)) (n - 8 * (i + 1))
like-byte map area n i h e =
    first-behind (unlike_marks map area n) (8 * i) (8 * (i + 1)) n (omega arith) (omega arith) (λ j a b. like-bit map area n i j e a (omega arith) (omega arith))
