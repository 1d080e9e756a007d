-- A header with one retrieval pointer more.
use Rattle.std.specs.Prelude.{List, ℕ, ◌+◌, ◌*◌, ◌-◌, ◌/◌, ◌%◌, set}
use Rattle.image.specs.Stores.{put_word}
use Rattle.header.specs.Fields.{map_area, m_use}
use Rattle.pointers.specs.Pointers.{pointers_at, pointers}
use Rattle.fresh_header.specs.Fresh.{sealed}

-- 01, The header: "A pointer: high LBN byte, count byte, low LBN word; count c covers c+1 blocks." A header with the pointer to the c blocks from LBN s
-- on stored at a byte.
unfoldable pub put_pointer : List ℕ → ℕ → ℕ → ℕ → List ℕ
put_pointer h at s c = put_word (set (set h at (s / 65536)) (at + 1) (c - 1)) (at + 2) (s % 65536)

-- The byte after the last pointer in use. 01, Extend: "One pointer goes after the last of the last segment, never merged".
unfoldable pub next_pointer : List ℕ → ℕ
next_pointer h = pointers_at h + 4 * pointers h

-- 01, Extend: "M.USE .. follow". A pointer has two words.
unfoldable pub put_use : List ℕ → ℕ → List ℕ
put_use h words = set h (map_area h + 8) words

-- 01, Extend: "One pointer goes after the last ..; M.USE, checksum and map bits follow. The attribute area is never touched."
unfoldable pub extended_header : List ℕ → ℕ → ℕ → List ℕ
extended_header h s c = sealed (put_use (put_pointer h (next_pointer h) s c) (m_use h + 2))
