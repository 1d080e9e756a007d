use mathlib.Core.Path.{◌≡◌}
use Prim.Native.Nat.{◌-◌, ◌≤◌}
use Rattle.lists.specs.First.{first}
use Rattle.records.specs.Records.{wanted_in}
use Rattle.records.specs.declared.Wanted.TheVariants.{Named}
use Rattle.record_search.proofs.first_named.Given as goal

abbrev pub invariant-loop-left : goal.invariant-loop-left
invariant-loop-left l = (l.left ≤ l.to) × (first (wanted_in l.b (Named l.name)) l.from (l.to - l.from) ≡ first (wanted_in l.b (Named l.name)) (l.to - l.left) (l.to - (l.to - l.left)))

abbrev pub decreases-loop-left : goal.decreases-loop-left
decreases-loop-left l = l.left
