-- The part that is lent is the map, and comes back with the bits put.
use Rattle.std.proofs.Common.{arith}
use Rattle.image.proofs.WriteLaws.{part-bits}
use Rattle.stores.proofs.put_map_run.Goals as goal

pub returns : goal.returns
returns c = part-bits _ _ _ _ _ (omega arith) _ _ (omega arith) c.put_run.ensures
