use Rattle.std.proofs.Common.{ℕ, ◌≤◌, ◌<◌}
use Rattle.image.specs.Words.{byte_at}
use Rattle.marks.proofs.highest.Given as goal

abbrev pub invariant-loop-i : goal.invariant-loop-i
invariant-loop-i l = (j : ℕ) → j < l.i → byte_at l.area j ≤ l.top
