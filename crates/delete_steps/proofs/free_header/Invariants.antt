use mathlib.Core.Path.{◌≡◌}
use Rattle.image.specs.Blocks.{block}
use Rattle.pointers.specs.Pointers.{runs}
use Rattle.image.specs.Stores.{put_map_bits}
use Rattle.delete_steps.proofs.free_header.Given as goal

abbrev pub invariant-loop-p : goal.invariant-loop-p
invariant-loop-p l = l.image ≡ put_map_bits l.initial.image l.map.0 l.q (runs (block l.initial.image l.lbn.0) l.at l.p) 1
