-- After i turns the first i marks are capped at 1, and mark i is as it was.
use Rattle.std.proofs.Common.{◌≡◌, min, sym, arith}
use Rattle.image.specs.Words.{byte_at}
use Rattle.marks.proofs.MarkLaws.{lowered_none, lowered-next, lowered-more}
use Rattle.marks.proofs.lower_first.Goals as goal

pub loop-i-init : goal.loop-i-init
loop-i-init c = sym (lowered_none _)

pub loop-i-preserved : goal.loop-i-preserved
loop-i-preserved c =
    let area = c.args.area.now in
    let i = c.loop-i.i in
    let as-was : byte_at c.loop-i.area i ≡ byte_at area i = rw c.loop-i.invariant (lowered-next area i) in
    let lower : c.min.result ≡ min 1 (byte_at area i) = omega arith in
    rw (lower, c.loop-i.invariant) (lowered-more area i (omega arith))
