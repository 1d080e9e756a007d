-- Inside a run the slot is the next block; at its end the next pointer begins.
use Rattle.std.proofs.Common.{arith}
use Rattle.volume.proofs.VolumeLaws.{opens}
use Rattle.slots.proofs.SlotLaws.{stands-next, stands-last, stands-room}
use Rattle.slots.proofs.next_run.Goals as goal

pub run_from-requires : goal.run_from-requires
run_from-requires c = (c.requires.0, stands-last c.args.image.now c.args.n.0 c.args.run c.requires.1 (omega arith))

pub overflow_add-result : goal.overflow_add-result
overflow_add-result c =
    let o = opens c.args.image.now c.requires.0.0 in
    omega (arith, stands-room c.args.image.now c.args.n.0 c.args.run c.requires.1 o (omega arith), o.most)

pub returns : goal.returns
returns c = stands-next c.args.image.now c.args.n.0 c.args.run c.requires.1 (omega arith) _ _ (omega arith) (omega arith)
