-- Opening is refused, or the directory that opens is searched.
use borrow.Author.Rules.{rules}
use native.Mathlib.Omega.{arith}
use Rattle.directory.proofs.SearchLaws.{records-count}
use Rattle.answer.specs.Outcome.{◌then◌}
use Rattle.answer.specs.Answers.{answer_of}
use Rattle.look_up.specs.LookUp.{find_name, look_up_answer}
use Rattle.look_up.proofs.look_up.Goals as goal

pub look_up_opened-requires : goal.look_up_opened-requires
look_up_opened-requires c =
    let p = c.in_ok-file.ensures in
    (p.0, p.1, omega (arith, c.record_count-count.ensures, p.2, records-count c.args.image.now c.args.id.number), p.3, p.5)

pub returns-in_err-file : goal.returns-in_err-file
unfolding look_up_answer find_name answer_of ◌then◌
returns-in_err-file c = search rules
