-- What judging the volume gives; where it is passed the blocks are marked, and are counted.
use mathlib.Core.Path.{refl, ap, ◌∙◌}
use mathlib.Core.List.{List}
use Prim.Native.Nat.{ℕ, ◌≤◌}
use native.Mathlib.Omega.{arith}
use lib.ListN.{length}
use Rattle.image.specs.Stores.{zeros}
use Rattle.answer.specs.Answers.{answer_of}
use Rattle.home.specs.Home.{blocks}
use Rattle.marks.proofs.MarkLaws.{tallied-length}
use Rattle.links.proofs.LinksLaws.{tallied-still}
use Rattle.covers.specs.Covered.{covered}
use Rattle.verdict.specs.Verdict.{judge_answer}
use Rattle.verdict.proofs.PassedLaws.{passed-opens, passed-room, passed-marks}
use Rattle.verdict.proofs.judge.Goals as goal

-- The array lent for the places is new.
pub judge_volume-requires : goal.judge_volume-requires
unfolding zeros
judge_volume-requires c = refl

pub count-requires : goal.count-requires
count-requires c =
    let image : List ℕ = c.args.image.now in
    let area : List ℕ = c.args.area.now in
    let v = c.in_ok-v.ensures.judged in
    let room : blocks image ≤ length area = (passed-room image _ _ v.0).0 in
    let marks = c.judge_volume.ensures.block_marks ∙ passed-marks image area _ v.0 in (
      (passed-opens image _ _ v.0, v.1),
      omega (arith, room, ap length marks, tallied-length (covered image) 0 (blocks image) area room),
      tallied-still (covered image) 0 (blocks image) area _ marks,
    )

pub returns-in_err-v : goal.returns-in_err-v
unfolding judge_answer answer_of
returns-in_err-v c = (grind arith, c.judge_volume.ensures.block_marks, c.judge_volume.ensures.header_marks)

pub returns : goal.returns
unfolding judge_answer answer_of
returns c = (grind arith, c.judge_volume.ensures.block_marks, c.judge_volume.ensures.header_marks)
