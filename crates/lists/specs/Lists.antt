-- Lists of numbers.
use Rattle.std.specs.Prelude.{ℕ, zero, suc, ◌+◌, List, [], ◌∷◌, Bool, true, ◌&&◌}

-- The c numbers from s on: s, s + 1, .., s + c - 1. 01, Extend: "c free blocks in a row".
unfoldable pub numbers_from : ℕ → ℕ → List ℕ
numbers_from s zero = []
numbers_from s (suc c) = s ∷ numbers_from (s + 1) c

-- A test that each of a list of numbers passes.
unfoldable pub every : (ℕ → Bool) → List ℕ → Bool
every p [] = true
every p (n ∷ ns) = p n && every p ns

-- The last of a list of numbers; n where it has none.
unfoldable pub last_of : ℕ → List ℕ → ℕ
last_of n [] = n
last_of n (x ∷ xs) = last_of x xs
