-- The value words of the verdict.
use Rattle.std.specs.Prelude.{ℕ, List, [], ◌∷◌}
use Rattle.verdict.specs.declared.Counts.{Counts}

-- N, how many blocks are covered, how many bits are free, how many file numbers are in use.
abbrev pub counts_value : Counts → List ℕ
counts_value c = c.blocks ∷ c.claimed ∷ c.free ∷ c.headers ∷ []
