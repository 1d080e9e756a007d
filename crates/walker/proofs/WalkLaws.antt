-- Laws of a walk: what each step answers, and what all of them do.
use Rattle.look_up.specs.declared.Step.{Step}
use Rattle.answer.specs.Outcome.{Outcome, Answer}
use Rattle.std.specs.Prelude.{Ok, Err}
use mathlib.Core.Path.{◌≡◌, refl, sym, ap, ◌∙◌}
use mathlib.Core.Bool.{Bool, true, false, not}
use mathlib.Core.List.{List, [], ◌∷◌}
use Prim.Native.Nat.{ℕ, zero, suc, ◌+◌, ◌-◌, ◌≤◌, ◌<◌}
use native.Mathlib.Decide.{dec_lt}
use native.Mathlib.Omega.{arith}
use Rattle.lists.proofs.FirstLaws.{Is, first-has, first_on, first-here}
use Rattle.answer.specs.declared.types.FileId.{FileId}
use Rattle.answer.specs.declared.refusal.Refusal.{Refusal}
use Rattle.answer.specs.declared.refusal.Refusal.TheVariants.{Absent}
use Rattle.answer.proofs.OutcomeLaws.{refused-not}
use Rattle.chains.specs.Chains.{file_blocks}
use Rattle.open_file.specs.Opening.{open_file}
use Rattle.records.specs.Records.{is_empty, is_wanted}
use Rattle.records.specs.declared.Entry.{Entry}
use Rattle.records.specs.declared.Wanted.TheVariants.{Any}
use Rattle.directory.specs.Search.{wanted_at, record_count, first_wanted, entry_of_file, filled_from}
use Rattle.look_up.specs.LookUp.{find_next, next_record_answer}
use Rattle.look_up.proofs.LookUpLaws.{next-refused, next-absent, next-found}
use Rattle.walker.specs.Walker.{place_after, Answers, Told, answered, walked, Walks}

not-true : (b : Bool) → not b ≡ true → b ≡ false
not-true true e = sym e
not-true false e = refl

not-false : (b : Bool) → not b ≡ false → b ≡ true
not-false true e = refl
not-false false e = sym e

module _ (image : List ℕ) (id : FileId) where
  abbrev count : ℕ
  count = record_count image id.number

  abbrev entry : ℕ → Entry
  entry i = entry_of_file image id.number i

  abbrev wanted : ℕ → Bool
  wanted i = wanted_at image (file_blocks image id.number) Any i

  abbrev found : ℕ → ℕ
  found place = first_wanted image id.number Any place

  wanted-is : (i : ℕ) → wanted i ≡ not (is_empty (entry i))
  unfolding wanted_at is_wanted entry_of_file
  wanted-is i = refl

  found-is : (place : ℕ) → Is wanted place (count - place) (found place)
  unfolding first_wanted
  found-is place = first-has wanted place (count - place)

  empty-before : (place i : ℕ) → place ≤ i → i < found place → is_empty (entry i) ≡ true
  empty-before place i a b = not-false (is_empty (entry i)) (sym (wanted-is i) ∙ (found-is place).before i a b)

  -- A step that finds a record answers it.
  answers : (place : ℕ) → found place < count → Answers image id place (entry (found place)) (found place + 1)
  answers place l = record {
    at = found place;
    onward = (found-is place).low;
    inside = l;
    behind = refl;
    entry = refl;
    filled = not-true (is_empty (entry (found place))) (sym (wanted-is (found place)) ∙ (found-is place).here (omega (arith, (found-is place).low)));
    between = empty-before place;
  }

  -- What the answer of a step tells: a record is found, there is none, or the file does not open.
  pub told : (place : ℕ) → Told image id place (next_record_answer image id place)
  told place = go (open_file image id) refl (dec_lt (found place) count)
    where
      go : (o : Outcome) → open_file image id ≡ o → Dec (found place < count) → Told image id place (next_record_answer image id place)
      go (Ok tt) e (yes l) = rw (next-found image id place e (found place) refl l) (answers place l)
      go (Ok tt) e (no l) = rw (next-absent image id place e (omega arith)) (refl, λ _ i a b. empty-before place i a (omega arith))
      go (Err r) e d = rw (next-refused image id place r e) (refl, λ p. absurd (refused-not r (sym e ∙ p)))

  pub stays-there : (place : ℕ) (r : Refusal) → next_record_answer image id place ≡ Err r
      → (place_after (next_record_answer image id place) place ≡ place) × (next_record_answer image id (place_after (next_record_answer image id place) place) ≡ Err Absent)
  unfolding place_after
  stays-there place r h =
      let t = rw h at (told place) in
      rw h (refl, h ∙ ap Err t.0)

  -- A walk at its end stays there, however many steps are left.
  ended : (n place : ℕ) (r : Refusal) → next_record_answer image id place ≡ Err r → walked image id n place ≡ []
  unfolding walked answered place_after
  ended zero place r h = refl
  ended (suc n) place r h = rw h (ended n place r h)

  -- Two places from which the next step is the same.
  steps-over : (n place : ℕ) → next_record_answer image id place ≡ next_record_answer image id (place + 1) → walked image id n place ≡ walked image id n (place + 1)
  unfolding walked answered place_after
  steps-over zero place h = refl
  steps-over (suc n) place h = go (next_record_answer image id (place + 1)) refl
    where
      go : (s : Answer Step) → next_record_answer image id (place + 1) ≡ s → walked image id (suc n) place ≡ walked image id (suc n) (place + 1)
      go (Ok step) q = rw (h, q)
      go (Err r) q = ended (suc n) place r (h ∙ q) ∙ sym (ended (suc n) (place + 1) r q)

  -- A step from an empty record is the step from the one behind it; from one that is not it answers that record.
  found-on : (place : ℕ) → place < count → is_empty (entry place) ≡ true → found place ≡ found (place + 1)
  unfolding first_wanted
  found-on place l e = first_on wanted place count l (wanted-is place ∙ ap not e)

  next-empty : (place : ℕ) → place < count → is_empty (entry place) ≡ true → next_record_answer image id place ≡ next_record_answer image id (place + 1)
  unfolding next_record_answer find_next
  next-empty place l e = rw (found-on place l e)

  module _ (opened : open_file image id ≡ Ok tt) where
    next-filled : (place : ℕ) → place < count → is_empty (entry place) ≡ false → next_record_answer image id place ≡ Ok (record { entry = entry place; next = place + 1 })
    unfolding first_wanted
    next-filled place l e = next-found image id place opened place (sym (first-here wanted place count l (wanted-is place ∙ ap not e))) l

    -- The steps from a place on, by the number of records that are left.
    walks_from : (d n place : ℕ) → place + d ≡ count → d ≤ n → walked image id n place ≡ filled_from image id.number place d
    unfolding filled_from walked answered place_after
    walks_from zero n place at few = ended n place Absent (next-absent image id place opened (omega (arith, (found-is place).low)))
    walks_from (suc d) n place at few = go (is_empty (entry place)) refl n few (λ m l. walks_from d m (place + 1) (omega arith) l)
      where
        go : (b : Bool) → is_empty (entry place) ≡ b → (n : ℕ) → suc d ≤ n
            → ((m : ℕ) → d ≤ m → walked image id m (place + 1) ≡ filled_from image id.number (place + 1) d) → walked image id n place ≡ filled_from image id.number place (suc d)
        go true e n few on = rw e (steps-over n place (next-empty place (omega arith) e) ∙ on n (omega arith))
        go false e zero few on = absurd (omega arith)
        go false e (suc n) few on = rw (e, next-filled place (omega arith) e) (ap (λ es. entry place ∷ es) (on n (omega arith)))

pub walks : Walks
walks = record {
  step = told;
  onward = λ image id place step h. let t = rw h at (told image id place) in omega (arith, t.onward, t.behind);
  stays = stays-there;
  at_once = next-refused;
  all = λ image id n opened few. walks_from image id opened (record_count image id.number) n 0 (omega arith) few;
}
