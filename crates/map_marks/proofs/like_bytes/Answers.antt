-- Each byte that is passed is as its marks want it.
use Rattle.std.proofs.Common.{◌∙◌, arith}
use Rattle.map_marks.proofs.WantedLaws.{like-byte}
use Rattle.map_marks.proofs.like_bytes.Goals as goal

pub loop-i-preserved : goal.loop-i-preserved
loop-i-preserved c =
    let a = c.args in
    c.loop-i.invariant ∙ like-byte a.map.now a.area.now a.n c.loop-i.i (omega arith) (c.if-map-i.false ∙ c.wanted_byte.ensures)
