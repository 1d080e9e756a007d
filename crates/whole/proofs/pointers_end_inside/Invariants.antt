use mathlib.Core.Path.{◌≡◌}
use mathlib.Core.Bool.{true}
use Rattle.lists.specs.First.{below}
use Rattle.whole.specs.Whole.{ends_inside}
use Rattle.whole.proofs.pointers_end_inside.Given as goal

abbrev pub invariant-loop-p : goal.invariant-loop-p
invariant-loop-p l = below l.p (ends_inside l.blocks l.h) ≡ true
