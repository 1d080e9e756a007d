-- What an image holds after blocks of it are written.
use Rattle.std.specs.Prelude.{ℕ}

-- 01, Index file: a number "is in use when index map bit n−1 is set".
abbrev pub used_bit : ℕ
used_bit = 1

abbrev pub unused_bit : ℕ
unused_bit = 0

-- 01, Storage map file: "set means free".
abbrev pub free_bit : ℕ
free_bit = 1

abbrev pub taken_bit : ℕ
taken_bit = 0
