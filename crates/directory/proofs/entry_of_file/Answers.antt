-- Record r is record r % 32 of block r / 32.
use mathlib.Core.Path.{◌≡◌}
use Prim.Native.Nat.{◌/◌}
use native.Mathlib.Omega.{arith}
use lib.ListN.{length}
use Rattle.image.proofs.BlockLaws.{block-length}
use Rattle.directory.specs.Search.{entry_at, entry_of_file}
use Rattle.directory.proofs.SearchLaws.{block_inside}
use Rattle.directory.proofs.entry_of_file.Goals as goal

pub entry_at-requires : goal.entry_at-requires
entry_at-requires c =
    let inside = block_inside c.args.image.now c.args.v c.args.places.now c.args.n.0 c.requires.0 (c.args.r / 32) (omega arith) in
    let long : length c.block.result.now ≡ 512 = rw c.block.ensures (block-length c.args.image.now c.lbn_at-place.result.0 (omega (arith, inside, c.lbn_at-place.ensures))) in
    omega (arith, long)

pub returns : goal.returns
unfolding entry_of_file entry_at
returns c = rw (c.entry_at.ensures, c.block.ensures, c.lbn_at-place.ensures)
