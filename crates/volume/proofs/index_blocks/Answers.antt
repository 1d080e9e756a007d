-- The headers so far have their blocks in the sum.
use Rattle.std.proofs.Common.{sym, ap, arith, take, length, get_or, length-append, get_or-take, take_all}
use Rattle.image.specs.Blocks.{block}
use Rattle.pointers.specs.Pointers.{Fits, flat, blocks_of}
use Rattle.volume.specs.Volume.{index}
use Rattle.volume.proofs.IndexLaws.{mapped-none, mapped-step}
use Rattle.volume.proofs.VolumeLaws.{places-first, places-fit}
use Rattle.volume.proofs.index_blocks.Goals as goal

pub loop-lbn-init : goal.loop-lbn-init
loop-lbn-init c = (sym (ap length (mapped-none c.args.image.now)), omega arith)

pub block_count-sum-requires : goal.block_count-sum-requires
block_count-sum-requires c =
    let at = c.args.places.now in
    let v = c.args.v in
    let k = c.loop-lbn.lbn-index in
    let fits : Fits (block c.args.image.now (get_or (take v.segments at) k 0)) = rw (get_or-take v.segments at k 0 (omega arith)) (places-fit _ v at c.requires k (omega arith)) in
    rw c.block.ensures fits

pub loop-lbn-preserved : goal.loop-lbn-preserved
loop-lbn-preserved c =
    let image = c.args.image.now in
    let ls = take c.args.v.segments c.args.places.now in
    let k = c.loop-lbn.lbn-index in
    let count = rw c.block.ensures at c.block_count-sum.ensures.0 in
    (omega (arith, count, ap length (mapped-step image ls k c.loop-lbn-test.true), length-append (flat (block image) (take k ls)) (blocks_of (block image (get_or ls k 0)))), omega arith)

pub returns : goal.returns
unfolding index
returns c =
    let image = c.args.image.now in
    rw (c.loop-lbn.invariant.0, take_all c.loop-lbn.lbn-index (take c.args.v.segments c.args.places.now) c.loop-lbn-test.false, places-first image c.args.v c.args.places.now c.requires)
