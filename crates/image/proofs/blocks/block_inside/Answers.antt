-- The part that is handed on is the block.
use Rattle.std.proofs.Common.{◌≡◌, ◌+◌, ◌-◌, ◌*◌, arith}
use Rattle.image.specs.Blocks.{block}
use Rattle.image.proofs.blocks.block_inside.Goals as goal

pub returns : goal.returns
unfolding block
returns c =
    let k = c.args.lbn.0 in
    let e : 512 * k + 512 - 512 * k ≡ 512 = omega arith in
    rw e
