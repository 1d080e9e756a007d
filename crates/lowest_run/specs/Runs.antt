-- The lowest run of free blocks.
use Rattle.answer.specs.declared.types.Lbn.{Lbn}
use Rattle.std.specs.Prelude.{Bool, cond, List, ℕ, ◌+◌, ◌-◌, ltb, Some, None, Option}
use Rattle.lists.specs.First.{first, below}
use Rattle.image.specs.Bits.{is_set}

-- Block s + i is free by the storage map. 01, Storage map file: "set means free".
unfoldable pub is_free : List ℕ → ℕ → ℕ → Bool
is_free map s i = is_set map (s + i)

-- 01, Extend: "c free blocks in a row", those from s on.
unfoldable pub is_run : List ℕ → ℕ → ℕ → Bool
is_run map c s = below c (is_free map s)

-- How many starts c blocks in a row have on a volume of n blocks.
unfoldable pub starts : ℕ → ℕ → ℕ
starts n c = n + 1 - c

-- 01, Extend: "the lowest start of c free blocks in a row"; the number of starts where there is none.
unfoldable pub lowest_start : List ℕ → ℕ → ℕ → ℕ
lowest_start map n c = first (is_run map c) 0 (starts n c)

-- The lowest start, if there is one.
unfoldable pub start_of : List ℕ → ℕ → ℕ → Option Lbn
start_of map n c = cond (ltb (lowest_start map n c) (starts n c)) (Some (record { 0 = lowest_start map n c })) None
