-- FILES, then LINKS with the header marks, then the rest with the block marks.
use Rattle.answer.specs.Outcome.{◌then◌}
use Rattle.verdict.specs.Verdict.{afterwards}
use Rattle.verdict.proofs.judge_opened.Goals as goal
use native.Mathlib.Omega.{arith}

pub returns-in_err-single : goal.returns-in_err-single
unfolding ◌then◌ afterwards
returns-in_err-single c = (grind arith, grind arith, grind arith)

pub returns-in_err-links : goal.returns-in_err-links
unfolding ◌then◌ afterwards
returns-in_err-links c = (grind arith, grind arith, grind arith)

pub returns : goal.returns
unfolding ◌then◌ afterwards
returns c = (grind arith, grind arith, grind arith)
