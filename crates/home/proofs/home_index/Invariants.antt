use mathlib.Core.Path.{◌≡◌}
use Prim.Native.Nat.{◌-◌, ◌≤◌}
use Rattle.lists.specs.First.{first}
use Rattle.home.specs.Home.{home_at, positions, home_index}
use Rattle.home.proofs.home_index.Given as goal

abbrev pub invariant-loop-i : goal.invariant-loop-i
invariant-loop-i l = (l.i ≤ positions l.n) × (home_index l.image ≡ first (home_at l.image) l.i (positions l.n - l.i))
