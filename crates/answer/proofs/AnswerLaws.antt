-- Laws of answers: what is answered by what a row of tests came to, and back.
use mathlib.Core.Path.{◌≡◌, refl, ap}
use Prim.Native.Nat.{ℕ}
use Rattle.std.specs.Prelude.{Ok, Err}
use Rattle.answer.specs.declared.types.Lbn.{Lbn}
use Rattle.answer.specs.declared.refusal.Refusal.{Refusal}
use Rattle.answer.specs.Outcome.{Answer, Outcome}
use Rattle.answer.specs.Answers.{answer_of, lbn_answer}
use Rattle.answer.proofs.OutcomeLaws.{err-not}

-- What is answered by the outcome.
module _ {T : Type 0} (o : Outcome) (value : T) where
  pub answer-done : (v : T) → o ≡ Ok tt → v ≡ value → Ok v ≡ answer_of o value
  unfolding answer_of
  answer-done v p e = rw (p, e)

  pub answer-refused : (r : Refusal) → o ≡ Err r → Err r ≡ answer_of o value
  unfolding answer_of
  answer-refused r p = rw p

pub lbn-done : (o : Outcome) (lbn : ℕ) (a : Lbn) → o ≡ Ok tt → a.0 ≡ lbn → Ok a ≡ lbn_answer o lbn
unfolding answer_of
lbn-done o lbn a p e = rw (p, ← e)

-- An answer DONE is that of a row of tests that is passed, and its value is the one that was given.
pub done-answer : {T : Type 0} (o : Outcome) (a b : T) → answer_of o a ≡ Ok b → (o ≡ Ok tt) × (a ≡ b)
unfolding answer_of
done-answer {T} (Ok tt) a b e = (refl, ap value e)
  where
    value : Answer T → T
    value (Ok x) = x
    value (Err r) = a
done-answer (Err r) a b e = absurd (err-not r b e)

pub done-lbn : (o : Outcome) (a : ℕ) (b : Lbn) → lbn_answer o a ≡ Ok b → (o ≡ Ok tt) × (a ≡ b.0)
done-lbn o a b e =
    let d = done-answer o (record { 0 = a }) b e in
    (d.0, ap (λ (l : Lbn). l.0) d.1)
