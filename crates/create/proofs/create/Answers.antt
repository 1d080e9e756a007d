-- The volume is judged, and refused, or create goes on from there.
use mathlib.Core.Path.{refl}
use native.Mathlib.Omega.{arith}
use Rattle.image.specs.Stores.{zeros}
use Rattle.answer.specs.Answers.{answer_of}
use Rattle.answer.specs.Outcome.{◌then◌}
use Rattle.verdict.specs.Verdict.{afterwards}
use Rattle.verdict.proofs.PassedLaws.{passed-opens}
use Rattle.update.specs.Create.{create_answer, create_image, create_outcome}
use Rattle.create.proofs.create.Goals as goal

-- The array lent for the places is new.
pub judge_volume-requires : goal.judge_volume-requires
unfolding zeros
judge_volume-requires c = refl

pub create_on-requires : goal.create_on-requires
create_on-requires c =
    let v = c.in_ok-v.ensures.judged in
    (passed-opens _ _ _ v.0, v.1, v.2)

pub returns-in_err-v : goal.returns-in_err-v
unfolding create_answer create_image create_outcome answer_of afterwards ◌then◌
returns-in_err-v c = (grind arith, grind arith, c.judge_volume.ensures.block_marks, c.judge_volume.ensures.header_marks)

pub returns : goal.returns
unfolding create_answer create_image create_outcome answer_of afterwards ◌then◌
returns c = (grind arith, grind arith, c.judge_volume.ensures.block_marks, c.judge_volume.ensures.header_marks)
