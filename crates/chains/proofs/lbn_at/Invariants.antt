use Prim.Native.Nat.{◌-◌, ◌≤◌}
use Rattle.header.specs.Fields.{segment}
use Rattle.chains.proofs.ChainLaws.{Walk}
use Rattle.chains.proofs.lbn_at.Given as goal

abbrev pub invariant-loop-left : goal.invariant-loop-left
invariant-loop-left l = (l.left ≤ l.i) × Walk l.image l.fn.n.0 l.h (l.i - l.left)

abbrev pub decreases-loop-left : goal.decreases-loop-left
decreases-loop-left l = 255 - segment l.h
