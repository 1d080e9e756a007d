-- Bytes and words of a list of bytes: an image, or a block of it.
use Rattle.std.specs.Prelude.{ℕ, ◌+◌, ◌*◌, ◌<◌, List, slice_index}

-- The byte at a place; past the end it is 0. 01 names a field by its first byte, as "H.FMAX 6".
abbrev pub byte_at : List ℕ → ℕ → ℕ
byte_at b at = slice_index b at

-- Each element of a list is a byte. 01, The work and its edge: an image is "512·N bytes".
pub record Bytes (b : List ℕ) : Type 0 where
  pub each : (i : ℕ) → byte_at b i < 256

-- 01, The work and its edge: "Words are two bytes, low byte first."
unfoldable pub word_at : List ℕ → ℕ → ℕ
word_at b at = byte_at b at + 256 * byte_at b (at + 1)
