-- The checksum of headers and home blocks.
use Rattle.std.specs.Prelude.{ℕ, zero, suc, ◌+◌, ◌*◌, ◌%◌, List}
use Rattle.image.specs.Words.{word_at}

-- 01, Checksum: "The sum of the first 255 words", here of the first n, not yet kept to 16 bits.
unfoldable pub word_sum : List ℕ → ℕ → ℕ
word_sum b zero = 0
word_sum b (suc n) = word_sum b n + word_at b (2 * n)

-- 01, Checksum: "The sum of the first 255 words, kept to 16 bits"; H.CHK1 "is the same sum over words 0 to 28".
-- n is 255 for a header and a home block, and 29 for H.CHK1.
unfoldable pub checksum : List ℕ → ℕ → ℕ
checksum b n = word_sum b n % 65536
