-- What calls and rows of tests come to: a value, or the refusal by the first test that is not met.
-- 01, Answer numbers: the table's "Given when", in the order that stands below it: "Order: 1 to 5; 16; 17 to 21 where judged; 6 to 12; then by
-- number."
use Rattle.std.specs.Prelude.{Bool, true, false, Result, Ok, Err}
use Rattle.answer.specs.declared.refusal.Refusal.{Refusal}

-- 01, Answer numbers: DONE with a value, or a refusal.
abbrev pub Answer : Type 0 → Type 0
Answer T = Result T Refusal

-- What a row of tests comes to: passed, which is Ok, or refused.
abbrev pub Outcome : Type 0
Outcome = Answer (Unit {0})

-- One test: refused where it is not met.
unfoldable pub unless : Bool → Refusal → Outcome
unless true r = Ok tt
unless false r = Err r

-- What comes next is asked only where what comes first is passed.
infixr 20 ◌then◌
unfoldable pub ◌then◌ : Outcome → Outcome → Outcome
(Ok tt) then next = next
(Err r) then next = Err r
