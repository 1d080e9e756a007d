use Rattle.std.proofs.Common.{◌≡◌}
use Rattle.lists.specs.Lists.{numbers_from}
use Rattle.image.specs.Stores.{put_bits}
use Rattle.stores.proofs.put_run.Given as goal

abbrev pub invariant-loop-i : goal.invariant-loop-i
invariant-loop-i l = l.map ≡ put_bits l.initial.map (numbers_from l.s l.i) l.v
