-- Laws of the checksum.
use Rattle.std.proofs.Common.{◌≡◌, ℕ, zero, suc, ◌+◌, ◌*◌, ◌%◌, ◌<◌, List, refl, ap, ap₂, add-one, arith}
use native.Mathlib.Nat.{mod-add-mod}
use Rattle.image.specs.Words.{word_at}
use Rattle.image.specs.Sums.{word_sum, checksum}

-- The running 16-bit sum is the sum kept to 16 bits: so at no word, and so with one word more.
pub checksum-none : (b : List ℕ) → checksum b 0 ≡ 0
unfolding checksum word_sum
checksum-none b = refl

pub checksum-more : (b : List ℕ) (n : ℕ) → (checksum b n + word_at b (2 * n)) % 65536 ≡ checksum b (n + 1)
unfolding checksum word_sum
checksum-more b n = rw (add-one n) (mod-add-mod (word_sum b n) 65536 (word_at b (2 * n)))

pub checksum-below : (b : List ℕ) (n : ℕ) → checksum b n < 65536
unfolding checksum
checksum-below b n = omega arith

-- The same words have the same checksum.
pub word_sum-same : (b b' : List ℕ) (n : ℕ) → ((i : ℕ) → i < n → word_at b (2 * i) ≡ word_at b' (2 * i)) → word_sum b n ≡ word_sum b' n
unfolding word_sum
word_sum-same b b' zero h = refl
word_sum-same b b' (suc n) h = ap₂ (λ (x y : ℕ). x + y) (word_sum-same b b' n (λ i l. h i (omega arith))) (h n (omega arith))

pub checksum-same : (b b' : List ℕ) (n : ℕ) → ((i : ℕ) → i < n → word_at b (2 * i) ≡ word_at b' (2 * i)) → checksum b n ≡ checksum b' n
unfolding checksum
checksum-same b b' n h = ap (λ (s : ℕ). s % 65536) (word_sum-same b b' n h)
