-- Laws of a test that is refused at its lowest offender: it is passed where there is none.
use Rattle.std.specs.Prelude.{Ok, Err}
use mathlib.Core.Path.{◌≡◌}
use mathlib.Core.Bool.{Bool, false}
use Prim.Native.Nat.{ℕ, ◌+◌, ◌≤◌, ◌<◌}
use native.Mathlib.Omega.{arith}
use borrow.Author.Tests.{eqb-true, eq-eqb, ne_eqb}
use lib.Dec.{eqb}
use Rattle.lists.specs.First.{first}
use Rattle.lists.proofs.FirstLaws.{first-has, first-is}
use Rattle.answer.specs.declared.refusal.Refusal.{Refusal}
use Rattle.answer.specs.Outcome.{unless}
use Rattle.answer.proofs.OutcomeLaws.{passed-last}

module _ (p : ℕ → Bool) (s d : ℕ) (r : Refusal) where
  pub search-passed : unless (eqb (first p s d) (s + d)) r ≡ Ok tt → (n : ℕ) → s ≤ n → n < s + d → p n ≡ false
  search-passed e n l h = (first-has p s d).before n l (omega (arith, eqb-true (first p s d) (s + d) (passed-last (eqb (first p s d) (s + d)) r e)))

  pub search-all : ((n : ℕ) → s ≤ n → n < s + d → p n ≡ false) → unless (eqb (first p s d) (s + d)) r ≡ Ok tt
  unfolding unless
  search-all h =
      rw (eq-eqb (first p s d) (s + d) (first-is p s d (s + d) (record { low = omega arith; high = omega arith; before = h; here = λ l. absurd (omega arith) })))

  -- What the test comes to by the place that was found.
  pub search-none : s + d ≤ first p s d → unless (eqb (first p s d) (s + d)) r ≡ Ok tt
  unfolding unless
  search-none l = rw (eq-eqb (first p s d) (s + d) (omega (arith, (first-has p s d).high)))

  pub search-refused : first p s d < s + d → unless (eqb (first p s d) (s + d)) r ≡ Err r
  unfolding unless
  search-refused l = rw (ne_eqb (first p s d) (s + d) (omega arith))
