use Rattle.std.proofs.Common.{◌≡◌}
use Rattle.lists.specs.Lists.{numbers_from}
use Rattle.marks.specs.Marks.{raised_by}
use Rattle.marks.proofs.raise_run.Given as goal

abbrev pub invariant-loop-i : goal.invariant-loop-i
invariant-loop-i l = l.area ≡ raised_by l.initial.area (numbers_from l.s l.i)
