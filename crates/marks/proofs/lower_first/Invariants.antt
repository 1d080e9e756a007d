use Rattle.std.proofs.Common.{◌≡◌}
use Rattle.marks.specs.Marks.{lowered}
use Rattle.marks.proofs.lower_first.Given as goal

abbrev pub invariant-loop-i : goal.invariant-loop-i
invariant-loop-i l = l.area ≡ lowered l.initial.area l.i
