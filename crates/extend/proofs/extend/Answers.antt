-- The volume is judged, and refused, or extend goes on from there: an image that is accepted is sound, and so safe.
use mathlib.Core.Path.{refl}
use Rattle.image.specs.Stores.{zeros}
use native.Mathlib.Omega.{arith}
use Rattle.answer.specs.Answers.{answer_of}
use Rattle.answer.specs.Outcome.{◌then◌}
use Rattle.verdict.specs.Verdict.{afterwards}
use Rattle.verdict.proofs.PassedLaws.{passed-opens, passed-room}
use Rattle.sound.proofs.ExactLaws.{verdict-judges}
use Rattle.update.specs.Extend.{extend_answer, extend_outcome, extend_image}
use Rattle.extend.proofs.extend.Goals as goal

-- The array lent for the places is new.
pub judge_volume-requires : goal.judge_volume-requires
unfolding zeros
judge_volume-requires c = refl

pub extend_on-requires : goal.extend_on-requires
extend_on-requires c =
    let v = c.in_ok-v.ensures.judged in
    let room = passed-room _ _ _ v.0 in
    ((passed-opens _ _ _ v.0, v.1, v.2), ((verdict-judges _ _ _ room.0 room.1).yields v.0).1.safe)

pub returns-in_err-v : goal.returns-in_err-v
unfolding extend_answer extend_image extend_outcome answer_of afterwards ◌then◌
returns-in_err-v c = (grind arith, grind arith, c.judge_volume.ensures.block_marks, c.judge_volume.ensures.header_marks)

pub returns : goal.returns
unfolding extend_answer extend_image extend_outcome answer_of afterwards ◌then◌
returns c = (grind arith, grind arith, c.judge_volume.ensures.block_marks, c.judge_volume.ensures.header_marks)
