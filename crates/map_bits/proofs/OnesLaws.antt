-- The ones of a byte are its set bits, and the ones of the bytes of a map, summed, are the set bits of the map.
use mathlib.Core.Path.{◌≡◌, refl, sym, ap, ◌∙◌}
use mathlib.Core.Bool.{true}
use mathlib.Core.List.{List}
use Prim.Native.Nat.{ℕ, zero, suc, ◌+◌, ◌-◌, ◌*◌, ◌≤◌, ◌<◌}
use native.Mathlib.Nat.{add-zero}
use native.Mathlib.Omega.{arith}
use borrow.Author.Tests.{eqb-true}
use lib.Dec.{eqb}
use lib.Count.{ones}
use Rattle.lists.specs.First.{below}
use Rattle.lists.proofs.BelowLaws.{below_at}
use Rattle.lists.specs.Counts.{how_many}
use Rattle.lists.proofs.CountLaws.{how_many-more, how_many-next}
use Rattle.image.specs.Words.{byte_at}
use Rattle.image.specs.Bits.{bit_of, bit_at, is_set}
use Rattle.image.proofs.BitLaws.{bit_in, set-one}

-- The set bits among the first i of a byte; all eight are its ones, which is computed for every byte.
unfoldable low_bits : ℕ → ℕ → ℕ
low_bits b zero = 0
low_bits b (suc i) = low_bits b i + bit_of b i

tests : below 256 (λ b. eqb (ones b) (low_bits b 8)) ≡ true
unfolding below ones low_bits bit_of
tests = refl

ones_low : (b : ℕ) → b < 256 → ones b ≡ low_bits b 8
ones_low b h = eqb-true (ones b) (low_bits b 8) (below_at 256 (λ b. eqb (ones b) (low_bits b 8)) tests b h)

within : (map : List ℕ) (k i : ℕ) → i ≤ 8 → how_many (is_set map) 0 (8 * k + i) ≡ how_many (is_set map) 0 (8 * k) + low_bits (byte_at map k) i
unfolding low_bits
within map k zero h = ap (how_many (is_set map) 0) (add-zero (8 * k)) ∙ sym (add-zero (how_many (is_set map) 0 (8 * k)))
within map k (suc i) h =
    let e : 8 * k + suc i ≡ 8 * k + i + 1 = omega arith in
    rw e (omega (arith, within map k i (omega arith), how_many-next (is_set map) (8 * k + i), set-one map (8 * k + i), bit_in map k i h))

-- One byte more is eight bits more.
pub how_many-byte : (map : List ℕ) (k : ℕ) → byte_at map k < 256 → how_many (is_set map) 0 (8 * (k + 1)) ≡ how_many (is_set map) 0 (8 * k) + ones (byte_at map k)
how_many-byte map k h =
    let e : 8 * (k + 1) ≡ 8 * k + 8 = omega arith in
    ap (how_many (is_set map) 0) e ∙ within map k 8 (omega arith) ∙ ap (λ (x : ℕ). how_many (is_set map) 0 (8 * k) + x) (sym (ones_low (byte_at map k) h))

-- One bit more adds itself, 0 or 1.
pub how_many-bit : (map : List ℕ) (from j : ℕ) → from ≤ j → how_many (is_set map) from (j + 1 - from) ≡ how_many (is_set map) from (j - from) + bit_at map j
how_many-bit map from j h =
    let d = j - from in
    let e : j + 1 - from ≡ d + 1 = omega arith in
    let at : from + d ≡ j = omega arith in
    rw e (omega (arith, rw at at (how_many-more (is_set map) from d), set-one map j))
