-- What the marks of a work area want of a map, a bit and a byte at a time.
use Rattle.std.specs.Prelude.{Bool, not, ◌&&◌, List, ℕ, ◌+◌, ◌*◌, eqb, ltb}
use Rattle.lists.specs.Counts.{one_if}
use Rattle.image.specs.Words.{byte_at}
use Rattle.image.specs.Bits.{bit_at}

-- Bit j of a map is not as the marks of n blocks want it. 01, The verdict: "MAP: a map bit wrong, ..: below N set exactly if covered by none, from N on
-- clear."
unfoldable pub unlike_marks : List ℕ → List ℕ → ℕ → ℕ → Bool
unlike_marks map area n j = not (eqb (bit_at map j) (one_if (ltb j n && eqb (byte_at area j) 0)))

-- The bit that mark j wants. 01, The verdict: "below N set exactly if covered by none".
unfoldable pub wanted_bit : List ℕ → ℕ → ℕ
wanted_bit area j = one_if (eqb (byte_at area j) 0)

-- The byte that the eight marks from mark j on want: its low four bits, its high four bits, and both.
unfoldable pub wanted_low : List ℕ → ℕ → ℕ
wanted_low area j = wanted_bit area j + 2 * wanted_bit area (j + 1) + 4 * wanted_bit area (j + 2) + 8 * wanted_bit area (j + 3)

unfoldable pub wanted_high : List ℕ → ℕ → ℕ
wanted_high area j = 16 * wanted_bit area (j + 4) + 32 * wanted_bit area (j + 5) + 64 * wanted_bit area (j + 6) + 128 * wanted_bit area (j + 7)

unfoldable pub wanted_byte : List ℕ → ℕ → ℕ
wanted_byte area j = wanted_low area j + wanted_high area j
