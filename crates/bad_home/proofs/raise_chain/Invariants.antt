use Prim.Native.Nat.{◌-◌}
use Rattle.header.specs.Fields.{segment}
use Rattle.bad_home.proofs.RaiseLaws.{Raised}
use Rattle.bad_home.proofs.raise_chain.Given as goal

abbrev pub invariant-loop-h : goal.invariant-loop-h
invariant-loop-h l = Raised l.image l.initial.area l.initial.area l.initial.h → Raised l.image l.initial.area l.area l.h

abbrev pub decreases-loop-h : goal.decreases-loop-h
decreases-loop-h l = 255 - segment l.h
