use Rattle.std.proofs.Common.{◌≡◌, ◌-◌}
use Rattle.lists.specs.First.{first}
use Rattle.bad_home.specs.Homes.{unmarked}
use Rattle.bad_home.proofs.first_unmarked.Given as goal

abbrev pub invariant-loop-i : goal.invariant-loop-i
invariant-loop-i l = first (unmarked l.area) 0 l.count ≡ first (unmarked l.area) l.i (l.count - l.i)
