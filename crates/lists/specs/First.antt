-- The lowest number that passes a test, and a test that every number passes.
use Rattle.std.specs.Prelude.{ℕ, zero, suc, ◌+◌, Bool, true, cond, ◌&&◌}

-- The first of the d numbers from s on at which the test p passes; s + d where it passes at none.
-- 01 has it in "the home is the first that has ..", "the place is the lowest offender", "the lowest n ..", "the lowest start ..": each is
-- this with a test of its own.
unfoldable pub first : (ℕ → Bool) → ℕ → ℕ → ℕ
first p s zero = s
first p s (suc d) =
    let on = first p (s + 1) d in
    cond (p s) s on

-- The test p passes at each number below n. 01 has it in "each pointer ends below N".
unfoldable pub below : ℕ → (ℕ → Bool) → Bool
below zero p = true
below (suc n) p = p n && below n p
