-- The index map has a bit for each number up to H.FMAX.
use Rattle.std.proofs.Common.{ap, length, arith}
use Rattle.image.proofs.BlockLaws.{region-length}
use Rattle.volume.proofs.is_marked.Goals as goal

pub bit_at-requires : goal.bit_at-requires
bit_at-requires c =
    let image = c.args.image.now in
    omega (arith, ap length c.region-map.ensures, region-length image c.args.from.0 c.args.m (omega arith))
