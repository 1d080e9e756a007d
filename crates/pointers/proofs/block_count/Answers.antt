-- The count bytes so far, and one for each pointer, are the blocks of the pointers so far and one for each pointer ahead.
use Rattle.std.proofs.Common.{ap, length, arith}
use Rattle.pointers.specs.Pointers.{pointer_count}
use Rattle.pointers.proofs.PointerLaws.{runs_none, runs-length}
use Rattle.pointers.proofs.block_count.Goals as goal

pub loop-p-init : goal.loop-p-init
loop-p-init c = omega (arith, ap length (runs_none c.args.h.now c.first_pointer-at.result))

pub loop-p-preserved : goal.loop-p-preserved
unfolding pointer_count
loop-p-preserved c = omega (arith, runs-length c.args.h.now c.first_pointer-at.result c.loop-p.p)
