use Rattle.std.proofs.Common.{◌≡◌}
use Rattle.image.specs.Sums.{checksum}
use Rattle.image.proofs.sums.checksum_on.Given as goal

abbrev pub invariant-loop-i : goal.invariant-loop-i
invariant-loop-i l = l.sum ≡ checksum l.b l.i
