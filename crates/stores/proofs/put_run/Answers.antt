-- After i turns the first i of the bits are stored.
use Rattle.std.proofs.Common.{sym}
use Rattle.image.proofs.BitLaws.{run_none, run_more}
use Rattle.stores.proofs.put_run.Goals as goal

pub loop-i-init : goal.loop-i-init
loop-i-init c = sym (run_none _ _ _)

pub loop-i-preserved : goal.loop-i-preserved
loop-i-preserved c = rw (run_more, ← c.loop-i.invariant) c.put_bit.ensures
