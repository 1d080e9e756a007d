-- What finding the header of a number comes to, by its tests.
use Rattle.std.specs.Prelude.{Ok, Err, None, Option}
use Rattle.std.specs.Option.{ok_or}
use Rattle.answer.specs.declared.types.Lbn.{Lbn}
use mathlib.Core.Path.{◌≡◌, sym, ◌∙◌}
use mathlib.Core.Bool.{true, false}
use mathlib.Core.List.{List}
use Prim.Native.Nat.{ℕ}
use borrow.Author.Tests.{eqb-true, eq-eqb, ne_eqb}
use lib.Dec.{eqb}
use Rattle.answer.specs.declared.refusal.Refusal.{Refusal}
use Rattle.answer.specs.declared.refusal.Refusal.TheVariants as refusal
use Rattle.answer.specs.Outcome.{unless, ◌then◌, Outcome, Answer}
use Rattle.answer.proofs.OutcomeLaws.{refused-not, passed_first, passed-last}
use Rattle.volume.specs.Volume.{slot, fault_of, is_number}
use Rattle.chains.specs.Chains.{slot_in_use}
use Rattle.chains.proofs.LinkLaws.{slot-found}
use Rattle.chains.specs.Finding.{find_number, Finds}

module _ (image : List ℕ) (n : ℕ) where
  pub find-number : is_number image n ≡ false → find_number image n ≡ Err refusal.Number
  unfolding find_number unless ◌then◌
  find-number u = rw u

  pub finds-none : (place : Option Lbn) → place ≡ slot_in_use image n → place ≡ None → (found : Answer Lbn) (r : Refusal) → Err r ≡ ok_or place refusal.Number
      → found ≡ Err r → Finds (find_number image n) (slot image n) found
  finds-none place e z found r v q =
      let w : Err r ≡ ok_or {T = Lbn} None refusal.Number = rw z at v in
      let number : r ≡ refusal.Number = cc w in
      rw (q, number) (find-number (slot-found image n None (sym e ∙ z)))

  module _ (u : is_number image n ≡ true) where
    pub find-unwhole : (fault_of image n ≡ 0 → ⊥) → find_number image n ≡ Err (refusal.Header (fault_of image n))
    unfolding find_number unless ◌then◌
    find-unwhole w = rw (u, ne_eqb (fault_of image n) 0 w)

    pub find-passed : fault_of image n ≡ 0 → find_number image n ≡ Ok tt
    unfolding find_number unless ◌then◌
    find-passed w = rw (u, eq-eqb (fault_of image n) 0 w)

  -- A header that was found is that of a number in use with a slot, and whole.
  pub find-is : find_number image n ≡ Ok tt → (is_number image n ≡ true) × (fault_of image n ≡ 0)
  unfolding find_number
  find-is e =
      let u = passed_first (is_number image n) refusal.Number _ e in
      (u.0, eqb-true (fault_of image n) 0 (passed-last (eqb (fault_of image n) 0) (refusal.Header (fault_of image n)) u.1))

-- A header that is not found is refused as the tests say.
pub finds-refused : (o : Outcome) (lbn : ℕ) (found : Answer Lbn) (r : Refusal) → found ≡ Err r → o ≡ Err r → Finds o lbn found
finds-refused o lbn found r q e = rw q e
