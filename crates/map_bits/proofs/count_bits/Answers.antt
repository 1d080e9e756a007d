-- Up to j the total is the number of bits that are set.
use Rattle.std.proofs.Common.{◌≡◌, ◌-◌, sym, arith, rules}
use Rattle.lists.proofs.CountLaws.{how_many-none}
use Rattle.image.proofs.BitLaws.{bit_below}
use Rattle.map_bits.proofs.OnesLaws.{how_many-bit}
use Rattle.map_bits.proofs.count_bits.Goals as goal

pub loop-j-init : goal.loop-j-init
loop-j-init c =
    let e : c.args.from - c.args.from ≡ 0 = omega arith in
    (search rules, rw e (sym (how_many-none _ _)))

pub overflow_add-total : goal.overflow_add-total
overflow_add-total c = omega (arith, bit_below c.args.map.now c.loop-j.j)

pub loop-j-preserved : goal.loop-j-preserved
loop-j-preserved c =
    let map = c.args.map.now in
    let j = c.loop-j.j in
    (omega (arith, bit_below map j), omega (arith, how_many-bit map c.args.from j (omega arith)))
