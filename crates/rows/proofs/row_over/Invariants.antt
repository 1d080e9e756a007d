use mathlib.Core.Path.{◌≡◌}
use mathlib.Core.List.{List, ◌++◌}
use Prim.Native.Nat.{ℕ}
use Rattle.pointers.specs.Pointers.{runs}
use Rattle.rows.specs.Rows.{row_in}
use Rattle.rows.proofs.row_over.Given as goal

abbrev pub invariant-loop-p : goal.invariant-loop-p
invariant-loop-p l = (lbns : List ℕ) (i : ℕ) → l.fn.row ≡ row_in lbns i → l.carried ≡ row_in (lbns ++ runs l.h l.at l.p) i
