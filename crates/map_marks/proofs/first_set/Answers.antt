-- No bit from the first place to before j is set.
use Rattle.std.proofs.Common.{◌≡◌, ◌∙◌, arith, eq-eqb, ne_eqb}
use Rattle.lists.proofs.FirstLaws.{first-here, first_on, first-none}
use Rattle.image.specs.Bits.{is_set}
use Rattle.image.proofs.BitLaws.{set_is}
use Rattle.map_marks.proofs.first_set.Goals as goal

pub returns-then-bit_at-eq1 : goal.returns-then-bit_at-eq1
returns-then-bit_at-eq1 c =
    let map = c.args.map.now in
    let j = c.loop-j.j in
    (c.loop-j.invariant ∙ first-here (is_set map) j c.args.end (omega arith) (set_is map j _ c.bit_at.ensures ∙ eq-eqb _ 1 c.if-bit_at-eq1.true), omega arith)

pub loop-j-preserved : goal.loop-j-preserved
loop-j-preserved c =
    let map = c.args.map.now in
    let j = c.loop-j.j in
    cc (first_on (is_set map) j c.args.end (omega arith) (set_is map j _ c.bit_at.ensures ∙ ne_eqb _ 1 c.if-bit_at-eq1.false))

pub returns : goal.returns
returns c =
    let e : c.loop-j.j ≡ c.args.end = omega arith in
    cc (first-none (is_set c.args.map.now) c.loop-j.j c.args.end (omega arith))
