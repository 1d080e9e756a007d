use Prim.Native.Nat.{◌-◌}
use Rattle.header.specs.Fields.{segment}
use Rattle.rows.proofs.RowLaws.{Turn}
use Rattle.rows.proofs.row_of.Given as goal

abbrev pub invariant-loop-h : goal.invariant-loop-h
invariant-loop-h l = Turn l.image l.fn.n.0 l.i l.h l.row

abbrev pub decreases-loop-h : goal.decreases-loop-h
decreases-loop-h l = 255 - segment l.h
