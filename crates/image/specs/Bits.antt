-- The bits of a map: a list of bytes, eight bits to each.
use Rattle.std.specs.Prelude.{ℕ, ◌/◌, ◌%◌, ◌^◌, Bool, List, ◌==◌}
use Rattle.image.specs.Words.{byte_at}

-- Bit k of a byte, 0 or 1; bit 0 is the lowest. 01, Index file: "bit j mod 8 of byte j/8".
unfoldable pub bit_of : ℕ → ℕ → ℕ
bit_of b k = b / 2 ^ k % 2

-- 01, Index file: "Bit j is bit j mod 8 of byte j/8."
unfoldable pub bit_at : List ℕ → ℕ → ℕ
bit_at m j = bit_of (byte_at m (j / 8)) (j % 8)

-- Bit j of a map is set. 01, Storage map file: "set means free".
unfoldable pub is_set : List ℕ → ℕ → Bool
is_set map j = bit_at map j == 1
