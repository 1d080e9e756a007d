-- The tests in their order; where all are met the file is put.
use native.Mathlib.Omega.{arith}
use borrow.Author.Tests.{le-leb, lt-leb}
use Rattle.answer.specs.Answers.{answer_of}
use Rattle.answer.specs.Outcome.{unless, ◌then◌}
use Rattle.volume.specs.Volume.{fmax}
use Rattle.volume.proofs.VolumeLaws.{says}
use Rattle.verdict.specs.Verdict.{afterwards}
use Rattle.spare_number.specs.SpareNumber.{spare_number}
use Rattle.update.specs.Create.{create_tests}
use Rattle.create.proofs.create_on.Goals as goal

pub returns-then-not-is_proper : goal.returns-then-not-is_proper
unfolding answer_of afterwards create_tests unless ◌then◌
returns-then-not-is_proper c = (grind arith, grind arith)

pub returns-in_err-n : goal.returns-in_err-n
unfolding answer_of afterwards create_tests unless ◌then◌
returns-in_err-n c =
    let told = rw c.in_err-n.ensures.ok_part at c.spare_number.ensures in
    let none = lt-leb (spare_number c.args.image.now) (fmax c.args.image.now) (omega (arith, told, (says _ c.args.v c.requires.1).fmax)) in
    (grind arith, grind arith)

pub returns : goal.returns
unfolding answer_of afterwards create_tests unless ◌then◌
returns c =
    let told = rw c.in_ok-n.ensures.ok_part at c.spare_number.ensures in
    let some = le-leb (spare_number c.args.image.now) (fmax c.args.image.now) (omega (arith, told, (says _ c.args.v c.requires.1).fmax)) in
    (grind arith, grind arith)
