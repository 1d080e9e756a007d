-- A volume that passes the verdict is sound, and the file is deleted on it; one that does not is left as it was.
use mathlib.Core.Path.{refl}
use native.Mathlib.Omega.{arith}
use Rattle.answer.specs.Outcome.{◌then◌}
use Rattle.verdict.specs.Verdict.{afterwards}
use Rattle.image.specs.Stores.{zeros}
use Rattle.verdict.proofs.PassedLaws.{passed-room}
use Rattle.sound.proofs.ExactLaws.{verdict-judges}
use Rattle.update.specs.Delete.{delete_answer, delete_outcome, delete_image}
use Rattle.delete.proofs.delete.Goals as goal

-- The array lent for the places is new.
pub judge_volume-requires : goal.judge_volume-requires
unfolding zeros
judge_volume-requires c = refl

pub delete_on-requires : goal.delete_on-requires
delete_on-requires c =
    let v = c.in_ok-v.ensures.judged in
    let room = passed-room _ _ _ v.0 in
    let sound = (verdict-judges _ _ _ room.0 room.1).yields v.0 in
    ((sound.0, v.1, v.2), sound.1.safe)

pub returns-in_err-v : goal.returns-in_err-v
unfolding delete_answer delete_image delete_outcome afterwards ◌then◌
returns-in_err-v c = (grind arith, grind arith, c.judge_volume.ensures.block_marks, c.judge_volume.ensures.header_marks)

pub returns : goal.returns
unfolding delete_answer delete_image delete_outcome afterwards ◌then◌
returns c = (grind arith, grind arith, c.judge_volume.ensures.block_marks, c.judge_volume.ensures.header_marks)
