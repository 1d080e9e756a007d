use mathlib.Core.Path.{◌≡◌}
use mathlib.Core.Bool.{true, false}
use Prim.Native.Nat.{ℕ, ◌-◌, ◌≤◌, ◌<◌}
use Rattle.lowest_run.specs.Runs.{is_run}
use Rattle.lowest_run.proofs.lowest_run.Given as goal

abbrev pub invariant-loop-k : goal.invariant-loop-k
invariant-loop-k l = (l.s ≡ l.initial.s) × (is_run l.map l.k l.s ≡ true)

abbrev pub invariant-search : goal.invariant-search
invariant-search l = (l.s ≤ l.n) × ((t : ℕ) → t < l.s → is_run l.map l.c t ≡ false)

abbrev pub decreases-search : goal.decreases-search
decreases-search l = l.n - l.s
