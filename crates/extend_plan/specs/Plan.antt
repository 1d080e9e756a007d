-- What the tests of extend come to.
use Rattle.answer.specs.Outcome.{Answer, Outcome}
use Rattle.std.specs.Prelude.{ℕ}
use Rattle.answer.specs.Answers.{answer_of}
use Rattle.extend_plan.specs.declared.Plan.{Plan}

-- What tests come to: where they are passed, the LBN of the file's last header and the first of the new blocks.
abbrev pub planned : Outcome → ℕ → ℕ → Answer Plan
planned o last lbn = answer_of o (record { last = record { 0 = last }; first = record { 0 = lbn } })
