use Rattle.std.proofs.Common.{◌≡◌, ◌*◌, ◌-◌}
use Rattle.lists.specs.First.{first}
use Rattle.map_marks.specs.Wanted.{unlike_marks}
use Rattle.map_marks.proofs.like_bytes.Given as goal

abbrev pub invariant-loop-i : goal.invariant-loop-i
invariant-loop-i l = first (unlike_marks l.map l.area l.n) 0 l.n ≡ first (unlike_marks l.map l.area l.n) (8 * l.i) (l.n - 8 * l.i)
