-- What is left is the place less the blocks of the pointers so far.
use Rattle.std.proofs.Common.{ap, length, arith}
use Rattle.pointers.proofs.PointerLaws.{runs_none, runs-length, in-pointer}
use Rattle.pointers.proofs.spot_of.Goals as goal

pub loop-pointer-init : goal.loop-pointer-init
loop-pointer-init c = omega (arith, ap length (runs_none c.args.h.now c.first_pointer-at.result))

pub returns-then-left-count : goal.returns-then-left-count
returns-then-left-count c =
    let h = c.args.h.now in
    let e = c.first_pointer-at.ensures.0 in
    let place = rw e at c.loop-pointer.invariant in
    let first = rw e at c.pointer_lbn-from.ensures.0 in
    let size = rw e at c.pointer_count-count.ensures.0 in
    rw place (in-pointer h c.loop-pointer.pointer c.loop-pointer.left _ _ (omega (arith, c.pointer_number-number.ensures.0)) (omega (arith, size)) (omega (arith, first)) (omega (arith, size)))

pub loop-pointer-preserved : goal.loop-pointer-preserved
loop-pointer-preserved c = omega (arith, runs-length c.args.h.now c.first_pointer-at.result c.loop-pointer.pointer)
