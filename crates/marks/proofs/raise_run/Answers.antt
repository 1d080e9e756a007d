-- After i turns the first i marks of the run are raised.
use Rattle.std.proofs.Common.{sym}
use Rattle.marks.proofs.MarkLaws.{raised_run-none, raised_run-more}
use Rattle.marks.proofs.raise_run.Goals as goal

pub loop-i-init : goal.loop-i-init
loop-i-init c = sym (raised_run-none _ _)

pub loop-i-preserved : goal.loop-i-preserved
loop-i-preserved c = rw (raised_run-more, ← c.loop-i.invariant) c.raise.ensures
