use Rattle.std.proofs.Common.{◌≡◌, ◌-◌}
use Rattle.lists.specs.First.{first}
use Rattle.map_marks.specs.Wanted.{unlike_marks}
use Rattle.map_marks.proofs.first_unlike_bit.Given as goal

abbrev pub invariant-loop-j : goal.invariant-loop-j
invariant-loop-j l = first (unlike_marks l.map l.area l.n) l.from (l.n - l.from) ≡ first (unlike_marks l.map l.area l.n) l.j (l.n - l.j)
