use mathlib.Core.Path.{◌≡◌}
use lib.ListN.{take}
use Rattle.image.specs.Blocks.{block}
use Rattle.pointers.specs.Pointers.{flat}
use Rattle.image.specs.Stores.{put_map_bits}
use Rattle.delete_steps.proofs.free_headers.Given as goal

abbrev pub invariant-loop-slot : goal.invariant-loop-slot
invariant-loop-slot l =
    l.image ≡ put_map_bits l.initial.image l.map.0 l.q (flat (block l.initial.image) (take l.slot-index l.slot-items)) 1
