use Rattle.std.proofs.Common.{◌≡◌, ◌+◌, ◌*◌, ◌≤◌, length}
use Rattle.pointers.specs.Pointers.{runs}
use Rattle.pointers.proofs.block_count.Given as goal

abbrev pub invariant-loop-p : goal.invariant-loop-p
invariant-loop-p l = (l.count + l.p ≡ length (runs l.h l.at l.p) + l.number) × (l.count ≤ l.number + 255 * l.p)
