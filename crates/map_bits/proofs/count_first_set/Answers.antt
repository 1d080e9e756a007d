-- The bits of the whole bytes, and those behind them.
use Rattle.std.proofs.Common.{◌*◌, ◌-◌, ◌/◌, arith}
use Rattle.image.specs.Bits.{is_set}
use Rattle.lists.proofs.CountLaws.{how_many-append}
use Rattle.map_bits.proofs.count_first_set.Goals as goal

pub returns : goal.returns
returns c =
    let n = c.args.n in
    grind (arith, how_many-append (is_set c.args.map.now) 0 (8 * (n / 8)) (n - 8 * (n / 8)))
