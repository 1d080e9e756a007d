-- Laws of a row of tests: what comes after a test is asked where the test is passed.
use mathlib.Core.Path.{◌≡◌, refl}
use mathlib.Core.Bool.{Bool, true, false}
use Rattle.std.specs.Prelude.{Ok, Err}
use Rattle.answer.specs.declared.refusal.Refusal.{Refusal}
use Rattle.answer.specs.Outcome.{Outcome, unless, ◌then◌}

pub err-not : {T : Type 0} (r : Refusal) (x : T) → Err r ≡ Ok x → ⊥
err-not r x e = cc

pub refused-not : (r : Refusal) → ◌≡◌ {A = Outcome} (Err r) (Ok tt) → ⊥
refused-not r e = err-not r tt e

-- What a row comes to by its first part.
pub then-passed : (a b : Outcome) → a ≡ Ok tt → (a then b) ≡ b
unfolding ◌then◌
then-passed a b e = rw e

pub then-refused : (a b : Outcome) (r : Refusal) → a ≡ Err r → (a then b) ≡ Err r
unfolding ◌then◌
then-refused a b r e = rw e

-- Where a row is passed, its first part is passed, or its first test met, and the rest is passed.
pub passed_then : (a b : Outcome) → (a then b) ≡ Ok tt → (a ≡ Ok tt) × (b ≡ Ok tt)
unfolding ◌then◌
passed_then (Ok tt) b e = (refl, e)
passed_then (Err r) b e = absurd (refused-not r e)

pub passed-last : (b : Bool) (r : Refusal) → unless b r ≡ Ok tt → b ≡ true
unfolding unless
passed-last true r e = refl
passed-last false r e = absurd (refused-not r e)

pub passed_first : (b : Bool) (r : Refusal) (next : Outcome) → (unless b r then next) ≡ Ok tt → (b ≡ true) × (next ≡ Ok tt)
passed_first b r next e =
    let both = passed_then (unless b r) next e in
    (passed-last b r both.0, both.1)

pub then-assoc : (a b c : Outcome) → ((a then b) then c) ≡ (a then (b then c))
unfolding ◌then◌
then-assoc (Ok tt) b c = refl
then-assoc (Err r) b c = refl
