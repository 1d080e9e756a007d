use Rattle.std.proofs.Common.{◌≡◌, ◌-◌}
use Rattle.lists.specs.First.{first}
use Rattle.image.specs.Bits.{is_set}
use Rattle.map_marks.proofs.first_set.Given as goal

abbrev pub invariant-loop-j : goal.invariant-loop-j
invariant-loop-j l = first (is_set l.map) l.from (l.end - l.from) ≡ first (is_set l.map) l.j (l.end - l.j)
