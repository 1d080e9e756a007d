use mathlib.Core.Path.{◌≡◌}
use lib.ListN.{take}
use Rattle.image.specs.Stores.{put_map_bits}
use Rattle.update.specs.Delete.{index_bits}
use Rattle.delete_steps.proofs.clear_index.Given as goal

abbrev pub invariant-loop-n : goal.invariant-loop-n
invariant-loop-n l = l.image ≡ put_map_bits l.initial.image l.map.0 l.q (index_bits (take l.n-index l.n-items)) 0
