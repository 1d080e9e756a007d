use Rattle.std.proofs.Common.{◌≡◌, ◌*◌, ◌≤◌, length, take}
use Rattle.image.specs.Blocks.{block}
use Rattle.pointers.specs.Pointers.{flat}
use Rattle.volume.proofs.index_blocks.Given as goal

abbrev pub invariant-loop-lbn : goal.invariant-loop-lbn
invariant-loop-lbn l = (l.sum ≡ length (flat (block l.image) (take l.lbn-index (take l.fn.v.segments l.places)))) × (l.sum ≤ 32512 * l.lbn-index)
