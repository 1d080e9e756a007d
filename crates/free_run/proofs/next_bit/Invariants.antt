use mathlib.Core.Path.{◌≡◌}
use Rattle.free_run.specs.Free.{next_bit}
use Rattle.free_run.proofs.next_bit.Given as goal

abbrev pub invariant-loop-j : goal.invariant-loop-j
invariant-loop-j l = next_bit l.map l.n l.b l.from ≡ next_bit l.map l.n l.b l.j
