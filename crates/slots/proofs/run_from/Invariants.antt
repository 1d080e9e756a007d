use Rattle.slots.specs.Slots.{Begins}
use Rattle.slots.proofs.run_from.Given as goal

abbrev pub invariant-loop-segment : goal.invariant-loop-segment
invariant-loop-segment l = Begins l.image l.fn.n.0 l.segment l.pointer
