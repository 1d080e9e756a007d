use Prim.Native.Nat.{◌-◌}
use Rattle.header.specs.Fields.{segment}
use Rattle.chains.proofs.ChainLaws.{Walk}
use Rattle.chains.proofs.chain_blocks.Given as goal

abbrev pub invariant-loop-h : goal.invariant-loop-h
invariant-loop-h l = Walk l.image l.fn.n.0 l.h l.count

abbrev pub decreases-loop-h : goal.decreases-loop-h
decreases-loop-h l = 255 - segment l.h
