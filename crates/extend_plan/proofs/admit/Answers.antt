-- Each test is asked where those before it are met.
use Rattle.std.proofs.Common.{arith}
use Rattle.answer.specs.Outcome.{unless, ◌then◌}
use Rattle.update.specs.Extend.{is_known_number, is_count}
use Rattle.extend_plan.proofs.admit.Goals as goal

pub returns-then-n-le5 : goal.returns-then-n-le5
unfolding is_known_number unless ◌then◌
returns-then-n-le5 c = grind arith

pub returns-then-is_fixed : goal.returns-then-is_fixed
unfolding is_known_number unless ◌then◌
returns-then-is_fixed c = grind arith

pub returns-then-c-lt1 : goal.returns-then-c-lt1
unfolding is_known_number is_count unless ◌then◌
returns-then-c-lt1 c = grind arith

pub returns : goal.returns
unfolding is_known_number is_count unless ◌then◌
returns c = grind arith
