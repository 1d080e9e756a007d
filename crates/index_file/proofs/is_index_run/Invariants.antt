use mathlib.Core.Path.{◌≡◌}
use mathlib.Core.Bool.{true}
use Prim.Native.Nat.{◌+◌}
use lib.Dec.{eqb}
use Rattle.lists.specs.First.{below}
use Rattle.volume.specs.Opening.{index_lbn}
use Rattle.index_file.proofs.is_index_run.Given as goal

abbrev pub invariant-loop-i : goal.invariant-loop-i
invariant-loop-i l = below l.i (λ i. eqb (l.lbn.0 + i) (index_lbn l.home.0 l.iblb.0 (l.k + i))) ≡ true
