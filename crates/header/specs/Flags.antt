-- The flags of a header.
use Rattle.std.specs.Prelude.{Bool, ◌||◌, List, ℕ, ◌/◌, ◌%◌, eqb}
use Rattle.header.specs.Fields.{user_flags, system_flags}

-- A flag, given by its value (a power of 2), is set.
unfoldable pub has_flag : ℕ → ℕ → Bool
has_flag flags value = eqb (flags / value % 2) 1

-- 01, The header: "User flag 64 (deaccess-locked) or system flag 128 (marked for delete) in the first header refuses access."
unfoldable pub locked : List ℕ → Bool
locked h = has_flag (user_flags h) 64 || has_flag (system_flags h) 128

-- 01, Answer numbers: "23 FIXED | extend with user flag 128 (contiguous)".
unfoldable pub is_fixed : List ℕ → Bool
is_fixed h = has_flag (user_flags h) 128
