-- How often a number stands in a list, and how many numbers pass a test.
use Rattle.std.specs.Prelude.{Bool, true, false, List, [], ◌∷◌, ℕ, zero, suc, ◌+◌, ◌≤◌, eqb}

-- 1 where a test passes, else 0.
abbrev pub one_if : Bool → ℕ
one_if true = 1
one_if false = 0

-- How often x stands in a list. 01, The verdict: "the times j is covered"; "the number of headers in use whose M.EFNU is n".
unfoldable pub count : ℕ → List ℕ → ℕ
count x [] = 0
count x (y ∷ ys) = one_if (eqb x y) + count x ys

-- x stands in a list.
abbrev pub In : ℕ → List ℕ → Type 0
In x l = 1 ≤ count x l

-- How many of the d numbers from s on pass the test p. 01, What would not satisfy us: "claimed counts the covered LBNs, free the set bits".
unfoldable pub how_many : (ℕ → Bool) → ℕ → ℕ → ℕ
how_many p s zero = 0
how_many p s (suc d) = how_many p s d + one_if (p (s + d))
