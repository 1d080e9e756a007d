-- Laws of bytes and words.
use Rattle.std.proofs.Common.{◌≡◌, ℕ, ◌+◌, ◌/◌, ◌%◌, ◌<◌, List, length, arith}
use native.Mathlib.Decide.{dec_lt}
use lib.ListN.{get_or-eq_default}
use Rattle.image.specs.Words.{byte_at, Bytes, word_at}

-- A byte that is not 0 lies inside the list.
pub byte_inside : (b : List ℕ) (at x : ℕ) → byte_at b at ≡ x → 0 < x → at < length b
byte_inside b at x e h = go (dec_lt at (length b))
  where
    go : Dec (at < length b) → at < length b
    go (yes l) = l
    go (no l) = absurd (omega (arith, get_or-eq_default b 0 {n = at} (omega arith)))

-- The same bytes make the same word.
pub word_same : (b b' : List ℕ) (at at' : ℕ) → byte_at b at ≡ byte_at b' at' → byte_at b (at + 1) ≡ byte_at b' (at' + 1) → word_at b at ≡ word_at b' at'
unfolding word_at
word_same b b' at at' low high = cc

module _ (b : List ℕ) (bytes : Bytes b) (at : ℕ) where
  pub word_below : word_at b at < 65536
  unfolding word_at
  word_below = omega (arith, bytes.each at, bytes.each (at + 1))

  pub word_low : word_at b at % 256 ≡ byte_at b at
  unfolding word_at
  word_low = omega (arith, bytes.each at)

  pub word-high : word_at b at / 256 ≡ byte_at b (at + 1)
  unfolding word_at
  word-high = omega (arith, bytes.each at)
