-- Laws of extend's tests: what a row of them comes to, and what is known by it.
use Rattle.std.specs.Prelude.{Ok, Err, Some, None, Option}
use mathlib.Core.Path.{◌≡◌, refl, sym, ap, subst, ◌∙◌}
use mathlib.Core.Bool.{Bool, true, false, not}
use mathlib.Core.List.{List}
use Prim.Native.Nat.{ℕ}
use Rattle.image.specs.Blocks.{block}
use Rattle.answer.specs.declared.types.Lbn.{Lbn}
use Rattle.answer.specs.declared.types.FileId.{FileId}
use Rattle.answer.specs.declared.refusal.Refusal.{Refusal}
use Rattle.answer.specs.declared.refusal.Refusal.TheVariants as refusal
use Rattle.answer.specs.Outcome.{unless, ◌then◌, Outcome, Answer}
use Rattle.answer.proofs.OutcomeLaws.{then-passed, then-refused, passed-last, passed_first, then-assoc}
use Rattle.header.specs.Flags.{is_fixed}
use Rattle.home.specs.Home.{blocks}
use Rattle.volume.specs.Volume.{slot, header, storage_map}
use Rattle.volume.specs.Opening.{open_volume}
use Rattle.lowest_run.specs.Runs.{start_of}
use Rattle.chains.specs.Chains.{last_number}
use Rattle.open_file.specs.Opening.{anyone, open_on}
use Rattle.open_file.proofs.OpeningLaws.{by-on}
use Rattle.update.specs.Extend.{is_known_number, is_count, has_room, run_start, has_run, extend_tests}
use Rattle.extend_plan.specs.declared.Plan.{Plan}
use Rattle.answer.specs.Answers.{answer_of}
use Rattle.extend_plan.specs.Plan.{planned}

-- KNOWN, FIXED and COUNT.
module _ (h : List ℕ) (n c : ℕ) where
  abbrev pub admits : Outcome
  admits = unless (not (is_known_number n)) refusal.Known then unless (not (is_fixed h)) refusal.Fixed then unless (is_count c) refusal.Count

  pub admits-count : admits ≡ Ok tt → is_count c ≡ true
  admits-count p =
      let k = passed_first (not (is_known_number n)) refusal.Known _ p in
      passed-last (is_count c) refusal.Count (passed_first (not (is_fixed h)) refusal.Fixed _ k.1).1

-- What is known of a run by where it was found to begin.
abbrev pub Begins : List ℕ → ℕ → Option Lbn → Type 0
Begins image c (Some lbn) = (has_run image c ≡ true) × (lbn.0 ≡ run_start image c)
Begins image c None = has_run image c ≡ false

pub begins : (image : List ℕ) (c : ℕ) (s : Option Lbn) → start_of (storage_map image) (blocks image) c ≡ s → Begins image c s
unfolding start_of has_run run_start
begins image c s e = subst (Begins image c) e (go (has_run image c) refl)
  where
    go : (t : Bool) → has_run image c ≡ t → Begins image c (start_of (storage_map image) (blocks image) c)
    go true g = rw g (g, refl)
    go false g = rw g g

-- FULL and RUN.
module _ (image : List ℕ) (k c : ℕ) where
  abbrev pub rooms : Outcome
  rooms = unless (has_room (block image k)) refusal.Full then unless (has_run image c) refusal.Run

-- A plan is what its tests come to.
module _ (o : Outcome) (last lbn : ℕ) where
  pub planned-refused : (r : Refusal) (p : Answer Plan) → p ≡ Err r → o ≡ Err r → p ≡ planned o last lbn
  unfolding answer_of
  planned-refused r p e f = rw (e, f)

  abbrev pub Plans : Answer Plan → Type 0
  Plans (Ok p) = (o ≡ Ok tt) × (p.last.0 ≡ last) × (p.first.0 ≡ lbn)
  Plans (Err r) = o ≡ Err r

  pub plans : (p : Answer Plan) → p ≡ planned o last lbn → Plans p
  unfolding answer_of
  plans p e = subst Plans (sym e) (go o refl)
    where
      go : (q : Outcome) → o ≡ q → Plans (planned o last lbn)
      go (Ok tt) g = rw g (refl, refl, refl)
      go (Err r) g = rw g refl

-- The plan that was made for the header at LBN k, where that is the last.
pub planned-at : (image : List ℕ) (c lbn : ℕ) (o : Outcome) (last k : ℕ) (p : Answer Plan) → o ≡ rooms image last c → p ≡ planned (rooms image k c) k lbn → k ≡ last
    → p ≡ planned o last lbn
planned-at image c lbn o last k p q e f = rw (q, ← f) e

-- The tests one after the other, on a volume that opens.
module _ (image : List ℕ) (id : FileId) (o : open_volume image ≡ Ok tt) where
  abbrev finding : Outcome
  finding = open_on anyone image id

  module _ (c : ℕ) where
    abbrev known : Outcome
    known = unless (not (is_known_number id.number)) refusal.Known

    abbrev fixed : Outcome
    fixed = unless (not (is_fixed (header image id.number))) refusal.Fixed

    abbrev counted : Outcome
    counted = unless (is_count c) refusal.Count

    abbrev last : Outcome
    last = rooms image (slot image (last_number image id.number)) c

    tests-are : extend_tests image id c ≡ (finding then (admits (header image id.number) id.number c then last))
    unfolding extend_tests header
    tests-are =
        ap (λ (row : Outcome). row then (known then (fixed then (counted then last)))) (by-on anyone image id o)
        ∙ ap (λ (row : Outcome). finding then row) (ap (λ (row : Outcome). known then row) (sym (then-assoc fixed counted last)) ∙ sym (then-assoc known (fixed then counted) last))

    pub tests-opening : (r : Refusal) → finding ≡ Err r → extend_tests image id c ≡ Err r
    tests-opening r f = tests-are ∙ then-refused finding (admits (header image id.number) id.number c then last) r f

    module _ (f : finding ≡ Ok tt) where
      rest : extend_tests image id c ≡ (admits (header image id.number) id.number c then last)
      rest = tests-are ∙ then-passed finding (admits (header image id.number) id.number c then last) f

      pub tests-admits : (r : Refusal) → admits (header image id.number) id.number c ≡ Err r → extend_tests image id c ≡ Err r
      tests-admits r a = rest ∙ then-refused (admits (header image id.number) id.number c) last r a

      pub tests-rooms : admits (header image id.number) id.number c ≡ Ok tt → extend_tests image id c ≡ rooms image (slot image (last_number image id.number)) c
      tests-rooms a = rest ∙ then-passed (admits (header image id.number) id.number c) last a
