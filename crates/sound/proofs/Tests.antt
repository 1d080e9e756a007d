-- Tests, and what they test: a test that is met, one that an offender meets, and a rule that asks it of a row of numbers.
use Rattle.std.specs.Prelude.{Ok}
use mathlib.Core.Path.{◌≡◌, refl, sym, ◌∙◌}
use mathlib.Core.Bool.{Bool, true, false, false≢true, not, ◌&&◌, ◌||◌}
use Prim.Native.Nat.{ℕ, ◌+◌, ◌≤◌, ◌<◌}
use native.Mathlib.Omega.{arith}
use borrow.Author.Tests.{eqb-true, eqb-false, leb-true, leb-false, ltb-true, eq-eqb, ne_eqb, le-leb, lt-leb, lt-ltb}
use lib.Dec.{eqb, leb, ltb}
use Rattle.lists.specs.First.{first}
use Rattle.lists.proofs.FirstLaws.{first-has, first-is}
use Rattle.answer.specs.declared.refusal.Refusal.{Refusal}
use Rattle.answer.specs.Outcome.{unless, ◌then◌, Outcome}
use Rattle.answer.proofs.OutcomeLaws.{then-passed, passed_then, passed-last}

-- The test b is met exactly where P.
pub record Tests (b : Bool) (P : Type 0) : Type 0 where
  pub yields : b ≡ true → P
  pub holds : P → b ≡ true

-- The offender's test b is not met exactly where P.
pub record Spares (b : Bool) (P : Type 0) : Type 0 where
  pub yields : b ≡ false → P
  pub holds : P → b ≡ false

-- The rule comes to o, and is passed exactly where P.
pub record Judges (o : Outcome) (P : Type 0) : Type 0 where
  pub yields : o ≡ Ok tt → P
  pub holds : P → o ≡ Ok tt

pub t-eq : (a b : ℕ) → Tests (eqb a b) (a ≡ b)
t-eq a b = record { yields = eqb-true a b; holds = eq-eqb a b }

pub t-le : (a b : ℕ) → Tests (leb a b) (a ≤ b)
t-le a b = record { yields = leb-true a b; holds = le-leb a b }

pub t-lt : (a b : ℕ) → Tests (ltb a b) (a < b)
t-lt a b = record { yields = ltb-true a b; holds = lt-ltb a b }

pub t-is : (b : Bool) → Tests b (b ≡ true)
t-is b = record { yields = λ e. e; holds = λ e. e }

pub t-and : {a b : Bool} {P Q : Type 0} → Tests a P → Tests b Q → Tests (a && b) (P × Q)
t-and {a = true} p q = record { yields = λ e. (p.yields refl, q.yields e); holds = λ r. q.holds r.1 }
t-and {a = false} p q = record { yields = λ e. absurd (false≢true e); holds = λ r. p.holds r.0 }

pub t-map : {b : Bool} {P Q : Type 0} → (P → Q) → (Q → P) → Tests b P → Tests b Q
t-map f g p = record { yields = λ e. f (p.yields e); holds = λ x. p.holds (g x) }

-- Either the one or, where that is not, the other.
pub t-or : {a b : Bool} {P Q : Type 0} → Tests a P → Tests b Q → Tests (a || b) ((P → ⊥) → Q)
t-or {a = true} p q = record { yields = λ e n. absurd (n (p.yields refl)); holds = λ f. refl }
t-or {a = false} p q = record { yields = λ e n. q.yields e; holds = λ f. q.holds (f (λ x. false≢true (p.holds x))) }

-- Spared by both; spared unless the first test is met and the second is not; spared by a test that is met.
pub s_or : {a b : Bool} {P Q : Type 0} → Spares a P → Spares b Q → Spares (a || b) (P × Q)
s_or {a = true} p q = record { yields = λ e. absurd (false≢true (sym e)); holds = λ r. p.holds r.0 }
s_or {a = false} p q = record { yields = λ e. (p.yields refl, q.yields e); holds = λ r. q.holds r.1 }

pub s-unmet : {a b : Bool} {P Q : Type 0} → Tests a P → Tests b Q → Spares (a && not b) (P → Q)
s-unmet {a = true} {b = true} p q = record { yields = λ e x. q.yields refl; holds = λ f. refl }
s-unmet {a = true} {b = false} p q = record { yields = λ e. absurd (false≢true (sym e)); holds = λ f. absurd (false≢true (q.holds (f (p.yields refl)))) }
s-unmet {a = false} p q = record { yields = λ e x. absurd (false≢true (p.holds x)); holds = λ f. refl }

pub s-not : {b : Bool} {P : Type 0} → Tests b P → Spares (not b) P
s-not {b = true} p = record { yields = λ e. p.yields refl; holds = λ x. refl }
s-not {b = false} p = record { yields = λ e. absurd (false≢true (sym e)); holds = λ x. absurd (false≢true (p.holds x)) }

pub s-least : (a b : ℕ) → Spares (leb a b) (b < a)
s-least a b = record { yields = leb-false a b; holds = lt-leb a b }

pub s-none : (a : ℕ) → Spares (eqb a 0) (1 ≤ a)
s-none a = record { yields = λ e. let n = eqb-false a 0 e in omega arith; holds = λ h. ne_eqb a 0 (λ e. omega arith) }

pub s-map : {b : Bool} {P Q : Type 0} → (P → Q) → (Q → P) → Spares b P → Spares b Q
s-map f g p = record { yields = λ e. f (p.yields e); holds = λ x. p.holds (g x) }

pub j-map : {o : Outcome} {P Q : Type 0} → (P → Q) → (Q → P) → Judges o P → Judges o Q
j-map f g p = record { yields = λ e. f (p.yields e); holds = λ x. p.holds (g x) }

-- A rule that names the first of the d numbers from s on that offends, or e past them, is passed exactly where each of them is spared.
pub j-each : {p : ℕ → Bool} {P : ℕ → Type 0} (s d e : ℕ) (r : Refusal) → e ≡ s + d → ((k : ℕ) → Spares (p k) (P k))
    → Judges (unless (eqb (first p s d) e) r) ((k : ℕ) → s ≤ k → k < e → P k)
unfolding unless
j-each {p} {P} s d e r end t = record {
  yields = λ o k a b. (t k).yields ((first-has p s d).before k a (omega (arith, eqb-true (first p s d) e (passed-last (eqb (first p s d) e) r o))));
  holds = λ h.
      let all : first p s d ≡ e =
      first-is p s d e (record { low = omega arith; high = omega arith; before = λ k a b. (t k).holds (h k a b); here = λ l. absurd (omega arith) }) in
      rw (eq-eqb (first p s d) e all);
}

-- A rule after another: what the second says may rest on what the first says.
pub j-then : {a b : Outcome} {P Q : Type 0} → Judges a P → (P → Judges b Q) → Judges (a then b) (P × Q)
j-then {a} {b} p q = record {
  yields = λ e.
      let both = passed_then a b e in
      let x = p.yields both.0 in
      (x, (q x).yields both.1);
  holds = λ r. then-passed a b (p.holds r.0) ∙ (q r.0).holds r.1;
}
