use mathlib.Core.Path.{◌≡◌}
use mathlib.Core.Bool.{true}
use Prim.Native.Nat.{◌+◌, min}
use lib.ListN.{length}
use Rattle.lists.specs.First.{below}
use Rattle.pointers.specs.Pointers.{runs, blocks_of}
use Rattle.volume.specs.Opening.{index_at}
use Rattle.index_file.proofs.is_index_mapped.Given as goal

abbrev pub invariant-loop-p : goal.invariant-loop-p
invariant-loop-p l = (l.done ≡ min (length (runs l.h l.at l.p)) (l.m + 18)) × (below l.done (index_at l.home.0 l.iblb.0 (blocks_of l.h)) ≡ true)
