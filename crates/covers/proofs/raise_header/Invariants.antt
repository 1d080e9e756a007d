use Rattle.std.proofs.Common.{◌≡◌}
use Rattle.pointers.specs.Pointers.{runs}
use Rattle.marks.specs.Marks.{raised_by}
use Rattle.covers.proofs.raise_header.Given as goal

abbrev pub invariant-loop-p : goal.invariant-loop-p
invariant-loop-p l = l.area ≡ raised_by l.initial.area (runs l.h l.at l.p)
