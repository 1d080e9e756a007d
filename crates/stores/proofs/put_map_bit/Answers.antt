-- The part that is lent is the map, and comes back with the bit put.
use Rattle.std.proofs.Common.{arith}
use Rattle.image.specs.Stores.{put_bits}
use Rattle.image.proofs.WriteLaws.{part-bits}
use Rattle.stores.proofs.put_map_bit.Goals as goal

pub returns : goal.returns
unfolding put_bits
returns c = part-bits _ _ _ _ _ (omega arith) _ _ (omega arith) c.put_bit.ensures
