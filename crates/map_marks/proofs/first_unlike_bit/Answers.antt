-- No bit from the first place to before j is unlike its mark.
use Rattle.std.proofs.Common.{◌≡◌, ◌∙◌, arith}
use Rattle.lists.proofs.FirstLaws.{first-here, first_on, first-none}
use Rattle.map_marks.specs.Wanted.{unlike_marks}
use Rattle.map_marks.proofs.WantedLaws.{unlike-true, unlike-false}
use Rattle.map_marks.proofs.first_unlike_bit.Goals as goal

pub returns-then-bit_at-wanted : goal.returns-then-bit_at-wanted
returns-then-bit_at-wanted c =
    let a = c.args in
    let j = c.loop-j.j in (
      c.loop-j.invariant ∙ first-here (unlike_marks a.map.now a.area.now a.n) j a.n (omega arith)
          (unlike-true a.map.now a.area.now a.n j _ _ (omega arith) c.bit_at.ensures c.weighed-wanted.ensures.0 c.if-bit_at-wanted.true),
      omega arith,
    )

pub loop-j-preserved : goal.loop-j-preserved
loop-j-preserved c =
    let a = c.args in
    let j = c.loop-j.j in
    cc (first_on (unlike_marks a.map.now a.area.now a.n) j a.n (omega arith)
    (unlike-false a.map.now a.area.now a.n j _ _ (omega arith) c.bit_at.ensures c.weighed-wanted.ensures.0 c.if-bit_at-wanted.false))

pub returns : goal.returns
returns c =
    let a = c.args in
    let e : c.loop-j.j ≡ a.n = omega arith in
    cc (first-none (unlike_marks a.map.now a.area.now a.n) c.loop-j.j a.n (omega arith))
