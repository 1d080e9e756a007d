-- The slots of the first sixteen numbers are blocks of header 1.
use Rattle.std.proofs.Common.{◌≡◌, arith, ◌+◌, ◌-◌}
use Rattle.volume.specs.Volume.{ibsz}
use Rattle.volume.proofs.VolumeLaws.{opens, index_header-fits, laid-header1, says}
use Rattle.slots.proofs.SlotLaws.{stands-first}
use Rattle.slots.proofs.slot_run.Goals as goal

pub run_at-requires : goal.run_at-requires
run_at-requires c =
    let image = c.args.image.now in
    let read = rw (laid-header1 image c.args.v (says image c.args.v c.requires.0.1)) at c.block-h.ensures in
    (rw read (index_header-fits (opens image c.requires.0.0)), omega (arith, c.slot_vbn.ensures))

pub returns : goal.returns
returns c =
    let image = c.args.image.now in
    let v = says image c.args.v c.requires.0.1 in
    let read = rw (laid-header1 image c.args.v v) at c.block-h.ensures in
    let place : c.slot_vbn.result.0 - 1 ≡ 1 + ibsz image + c.args.n.0 = omega (arith, c.slot_vbn.ensures, v.ibsz) in
    let found = rw (read, place) at c.run_at.ensures in
    stands-first image (opens image c.requires.0.0) c.args.n.0 c.run_at.result c.requires.1 found.0 found.1
