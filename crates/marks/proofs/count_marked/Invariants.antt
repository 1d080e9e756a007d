use Rattle.std.proofs.Common.{◌≡◌, ◌≤◌}
use Rattle.lists.specs.Counts.{how_many}
use Rattle.marks.specs.Marks.{marked}
use Rattle.marks.proofs.count_marked.Given as goal

abbrev pub invariant-loop-i : goal.invariant-loop-i
invariant-loop-i l = (l.total ≤ l.i) × (l.total ≡ how_many (marked l.area) 0 l.i)
