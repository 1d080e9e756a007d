-- The answer of a call by what its row of tests comes to: DONE with the value where that is passed, else the refusal.
-- 01, Answer numbers: "An answer is a number, a place and a value."
use Rattle.std.specs.Prelude.{ℕ, Ok, Err}
use Rattle.answer.specs.declared.types.Lbn.{Lbn}
use Rattle.answer.specs.declared.types.Run.{Run}
use Rattle.answer.specs.Outcome.{Answer, Outcome}

-- 01, Answer numbers: DONE has as value the "ID (look-up, create)", the "block count (open file)", the "text length", and so on.
unfoldable pub answer_of : {T : Type 0} → Outcome → T → Answer T
answer_of (Ok tt) value = Ok value
answer_of (Err r) value = Err r

-- 01, Answer numbers: DONE has as value "the home LBN (open volume)", the "LBN (map)", the "first new LBN (extend)".
abbrev pub lbn_answer : Outcome → ℕ → Answer Lbn
lbn_answer o lbn = answer_of o (record { 0 = lbn })

-- Blocks in a row: the first LBN, and how many there are. No call of 01 has this value.
abbrev pub run_answer : Outcome → ℕ → ℕ → Answer Run
run_answer o lbn count = answer_of o (record { lbn = record { 0 = lbn }; count = count })
