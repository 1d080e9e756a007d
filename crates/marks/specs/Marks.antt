-- The marks of a work area: counts that are capped at 2, a byte each. "Mark" is 01's word.
use Rattle.std.specs.Prelude.{Bool, List, [], ◌∷◌, ◌++◌, ℕ, zero, suc, ◌+◌, min, leb, drop, set}
use Rattle.lists.specs.Counts.{count}
use Rattle.image.specs.Words.{byte_at}
use Rattle.image.specs.Stores.{zeros}

-- f s, f (s + 1) and so on, n of them.
unfoldable pub table : (ℕ → ℕ) → ℕ → ℕ → List ℕ
table f s zero = []
table f s (suc n) = f s ∷ table f (s + 1) n

-- How often x stands in a list, capped at 2.
unfoldable pub capped : List ℕ → ℕ → ℕ
capped l x = min 2 (count x l)

-- A work area whose first k marks are the capped counts of s, s + 1 and so on in a list. 01, The verdict: "header mark n−1 is the number of headers
-- in use whose M.EFNU is n, capped at 2", where s is 1; "block mark j is the times j is covered, capped at 2", where s is 0; "bytes beyond, are
-- unchanged".
unfoldable pub tallied : List ℕ → ℕ → ℕ → List ℕ → List ℕ
tallied l s k area = table (capped l) s k ++ drop k area

-- The first k marks 0.
unfoldable pub cleared : List ℕ → ℕ → List ℕ
cleared area k = zeros k ++ drop k area

-- Mark i raised by one, capped at 2.
unfoldable pub raised : List ℕ → ℕ → List ℕ
raised area i = set area i (min 2 (byte_at area i + 1))

-- The marks of a list of places raised, one after the other.
unfoldable pub raised_by : List ℕ → List ℕ → List ℕ
raised_by area [] = area
raised_by area (i ∷ is) = raised_by (raised area i) is

-- The first k marks capped at 1.
unfoldable pub lowered : List ℕ → ℕ → List ℕ
lowered area k = table (λ i. min 1 (byte_at area i)) 0 k ++ drop k area

-- Mark j says "covered by two places". 01, The verdict: "TWICE".
unfoldable pub marked_twice : List ℕ → ℕ → Bool
marked_twice area j = leb 2 (byte_at area j)

-- Mark j says "covered".
unfoldable pub marked : List ℕ → ℕ → Bool
marked area j = leb 1 (byte_at area j)
