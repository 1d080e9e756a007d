use Rattle.std.proofs.Common.{◌≡◌, ◌+◌, length}
use Rattle.pointers.specs.Pointers.{runs}
use Rattle.pointers.proofs.spot_of.Given as goal

abbrev pub invariant-loop-pointer : goal.invariant-loop-pointer
invariant-loop-pointer l = l.i ≡ length (runs l.h l.at l.pointer) + l.left
