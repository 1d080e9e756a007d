-- At each turn the running sum is the checksum of the words read so far.
use Rattle.std.proofs.Common.{arith}
use Rattle.image.proofs.SumLaws.{checksum-more}
use Rattle.image.proofs.sums.checksum_on.Goals as goal

pub loop-i-preserved : goal.loop-i-preserved
loop-i-preserved c = omega (arith, checksum-more c.args.b.now c.loop-i.i)
