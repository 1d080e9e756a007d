-- Each turn is at a header, and what is left of the place counts from its first block.
use Rattle.std.proofs.Common.{Ok, Err, sym, ap, arith, ◌∙◌, take, [], ◌+◌, drop, get_or}
use Rattle.image.specs.Blocks.{block}
use Rattle.pointers.proofs.PointerLaws.{place-past}
use Rattle.pointers.specs.Pointers.{blocks_of, flat}
use Rattle.volume.proofs.IndexLaws.{found, mapped-drop, mapped-past}
use Rattle.volume.proofs.place_among.Goals as goal

pub returns-in-Ok : goal.returns-in-Ok
returns-in-Ok c =
    let image = c.args.image.now in
    let ls = take c.args.k c.args.at.now in
    let k = c.loop-lbn.lbn-index in
    let place = rw c.block.ensures at c.place_of.ensures in
    rw (c.loop-lbn.invariant, mapped-drop image ls k c.loop-lbn-test.true)
    (sym (found (blocks_of (block image (get_or ls k 0))) (flat (block image) (drop (k + 1) ls)) c.loop-lbn.left (Ok c.in-Ok.found) (sym place ∙ c.in-Ok.is)).2)

pub loop-lbn-preserved : goal.loop-lbn-preserved
loop-lbn-preserved c =
    let image = c.args.image.now in
    let ls = take c.args.k c.args.at.now in
    let k = c.loop-lbn.lbn-index in
    let place = rw c.block.ensures at c.place_of.ensures in
    rw (c.loop-lbn.invariant, mapped-drop image ls k c.loop-lbn-test.true)
    (found (blocks_of (block image (get_or ls k 0))) (flat (block image) (drop (k + 1) ls)) c.loop-lbn.left (Err c.in-Err.more) (sym place ∙ c.in-Err.is)).1

pub returns : goal.returns
returns c =
    rw (c.loop-lbn.invariant, mapped-past c.args.image.now (take c.args.k c.args.at.now) c.loop-lbn.lbn-index c.loop-lbn-test.false, place-past [] c.loop-lbn.left (omega arith))
    (ap Err (omega arith))
