-- After i turns the total is the number of set bits of the first i bytes.
use Rattle.std.proofs.Common.{◌<◌, sym, arith, rules}
use Rattle.std.proofs.lemmas.Nat.{ones-le}
use Rattle.image.specs.Words.{byte_at}
use Rattle.lists.proofs.CountLaws.{how_many-none}
use Rattle.map_bits.proofs.OnesLaws.{how_many-byte}
use Rattle.map_bits.proofs.count_bytes.Goals as goal

pub loop-i-init : goal.loop-i-init
loop-i-init c = (search rules, sym (how_many-none _ _))

pub loop-i-preserved : goal.loop-i-preserved
loop-i-preserved c =
    let map = c.args.map.now in
    let i = c.loop-i.i in
    let is-byte : byte_at map i < 256 = omega (arith, c.type_inv.map i) in
    (omega (arith, ones-le 8 (byte_at map i) is-byte), omega (arith, how_many-byte map i is-byte))
