-- The walk comes to a pointer of a header, or past the last of them, header by header.
use Rattle.std.proofs.Common.{◌≡◌, arith}
use Rattle.pointers.specs.Pointers.{Fits}
use Rattle.volume.proofs.VolumeLaws.{opens, headers-lie, says-segments, place_read, places-fit}
use Rattle.slots.proofs.SlotLaws.{begins-run, begins-next, begins-none}
use Rattle.slots.proofs.run_from.Goals as goal

pub block_inside-h-requires : goal.block_inside-h-requires
block_inside-h-requires c =
    let read = place_read c.args.image.now c.args.v c.args.places.now c.requires.0 c.loop-segment.segment (omega arith) in
    let o = opens c.args.image.now c.requires.0.0 in
    omega (arith, read.1, (headers-lie o _ read.0).low, o.size)

pub pointer_lbn-requires : goal.pointer_lbn-requires
pointer_lbn-requires c =
    let fits : Fits c.block_inside-h.result.now = rw c.block_inside-h.ensures (places-fit _ _ _ c.requires.0 c.loop-segment.segment (omega arith)) in
    omega (arith, fits)

pub pointer_count-requires : goal.pointer_count-requires
pointer_count-requires c =
    let fits : Fits c.block_inside-h.result.now = rw c.block_inside-h.ensures (places-fit _ _ _ c.requires.0 c.loop-segment.segment (omega arith)) in
    omega (arith, fits)

pub returns-then-pointer-pointer_number : goal.returns-then-pointer-pointer_number
returns-then-pointer-pointer_number c =
    let image = c.args.image.now in
    let k = c.loop-segment.segment in
    let read = place_read image c.args.v c.args.places.now c.requires.0 k (omega arith) in
    let header = rw read.1 at c.block_inside-h.ensures in
    let number = rw header at c.pointer_number.ensures.0 in
    let lbn = rw (c.first_pointer.ensures.0, header) at c.pointer_lbn.ensures.0 in
    let count = rw (c.first_pointer.ensures.0, header) at c.pointer_count.ensures.0 in
    begins-run image (opens image c.requires.0.0) c.args.n.0 k c.loop-segment.pointer c.loop-segment.invariant read.0 (omega (arith, number)) _ _ lbn count

pub loop-segment-preserved : goal.loop-segment-preserved
loop-segment-preserved c =
    let image = c.args.image.now in
    let k = c.loop-segment.segment in
    let read = place_read image c.args.v c.args.places.now c.requires.0 k (omega arith) in
    let number = rw (c.block_inside-h.ensures, read.1) at c.pointer_number.ensures.0 in
    begins-next image (opens image c.requires.0.0) c.args.n.0 k c.loop-segment.pointer c.loop-segment.invariant read.0 (omega (arith, number))

pub returns : goal.returns
returns c =
    let image = c.args.image.now in
    let all = says-segments image c.args.v c.requires.0.1 in
    let end : c.loop-segment.segment ≡ c.args.v.segments = omega (arith, all) in
    begins-none image (opens image c.requires.0.0) c.args.n.0 c.args.v.segments c.loop-segment.pointer (rw end at c.loop-segment.invariant) (omega (arith, all))
