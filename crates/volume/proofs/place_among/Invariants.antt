use Rattle.std.proofs.Common.{◌≡◌, take, drop}
use Rattle.image.specs.Blocks.{block}
use Rattle.pointers.specs.Pointers.{place_in, flat}
use Rattle.volume.proofs.place_among.Given as goal

abbrev pub invariant-loop-lbn : goal.invariant-loop-lbn
invariant-loop-lbn l = place_in (flat (block l.image) (take l.k l.at)) l.initial.left ≡ place_in (flat (block l.image) (drop l.lbn-index (take l.k l.at))) l.left
