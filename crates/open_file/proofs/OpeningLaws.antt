-- Laws of opening a file: what each part answers at the first test that is not met, and what a file that opens has.
use Rattle.std.specs.Prelude.{Ok, Err}
use mathlib.Core.Path.{◌≡◌, refl, sym, ◌∙◌}
use mathlib.Core.Bool.{true, false, not}
use mathlib.Core.List.{List}
use Prim.Native.Nat.{ℕ}
use native.Mathlib.Omega.{arith}
use borrow.Author.Tests.{eq-eqb, ne_eqb, eqb-true, not-true}
use lib.Dec.{eqb}
use Rattle.answer.specs.declared.types.FileId.{FileId}
use Rattle.answer.specs.declared.refusal.Refusal.{Refusal}
use Rattle.answer.specs.declared.refusal.Refusal.TheVariants as refusal
use Rattle.answer.specs.Outcome.{unless, ◌then◌, Outcome, Answer}
use Rattle.answer.proofs.OutcomeLaws.{refused-not, then-passed, then-refused, passed_then, passed-last, passed_first}
use Rattle.header.specs.Fields.{h_fseq, segment}
use Rattle.volume.specs.Volume.{header}
use Rattle.volume.specs.Opening.{open_volume}
use Rattle.chains.specs.Chains.{good_chain, IsFirst}
use Rattle.chains.specs.Finding.{find_number}
use Rattle.chains.proofs.FindingLaws.{find-is}
use Rattle.open_file.specs.Opening.{find, access, chained, Gate, anyone, open_on, open_by, Tells, TellsPlaces}
use Rattle.header.specs.Flags.{locked}
use Rattle.open_file.specs.declared.OpenedOn.{OpenedOn}
use Rattle.open_file.specs.declared.OpenFile.{OpenFile}

module _ (image : List ℕ) (id : FileId) where
  -- What finding a header comes to, by its tests.
  module _ (v : id.volume ≡ 0) where
    pub find-unfound : (r : Refusal) → find_number image id.number ≡ Err r → find image id ≡ Err r
    unfolding find unless ◌then◌
    find-unfound r e = rw (eq-eqb id.volume 0 v, e)

    module _ (n : find_number image id.number ≡ Ok tt) where
      pub find-sequence : (h_fseq (header image id.number) ≡ id.sequence → ⊥) → find image id ≡ Err refusal.Sequence
      unfolding find unless ◌then◌
      find-sequence q = rw (eq-eqb id.volume 0 v, n, ne_eqb (h_fseq (header image id.number)) id.sequence q)

      module _ (q : h_fseq (header image id.number) ≡ id.sequence) where
        pub find-segment : (segment (header image id.number) ≡ 0 → ⊥) → find image id ≡ Err refusal.Segment
        unfolding find unless ◌then◌
        find-segment s = rw (eq-eqb id.volume 0 v, n, eq-eqb (h_fseq (header image id.number)) id.sequence q, ne_eqb (segment (header image id.number)) 0 s)

        pub found_passed : segment (header image id.number) ≡ 0 → find image id ≡ Ok tt
        unfolding find unless ◌then◌
        found_passed s = rw (eq-eqb id.volume 0 v, n, eq-eqb (h_fseq (header image id.number)) id.sequence q, eq-eqb (segment (header image id.number)) 0 s)

  -- The flags are those of the header that was found.
  pub access-by : (h : List ℕ) → h ≡ header image id.number → unless (not (locked h)) refusal.Locked ≡ access image id
  unfolding access
  access-by h e = rw e

  pub access-passed : locked (header image id.number) ≡ false → access image id ≡ Ok tt
  unfolding access unless
  access-passed u = rw u

  pub chained-bad : good_chain image id.number ≡ false → chained image id ≡ Err refusal.Chain
  unfolding chained unless
  chained-bad g = rw g

  pub chained-passed : good_chain image id.number ≡ true → chained image id ≡ Ok tt
  unfolding chained unless
  chained-passed g = rw g

-- What a header that was found has.
pub record Finds (image : List ℕ) (id : FileId) : Type 0 where
  pub relvol : id.volume ≡ 0
  pub first : IsFirst image id.number
  pub sequence : h_fseq (header image id.number) ≡ id.sequence

-- What a file that opens has.
pub record Opened (gate : Gate) (image : List ℕ) (id : FileId) : Type 0 where
  pub volume : open_volume image ≡ Ok tt
  pub found : Finds image id
  pub admitted : gate (header image id.number) ≡ Ok tt
  pub unlocked : locked (header image id.number) ≡ false
  pub chain : good_chain image id.number ≡ true

module _ (image : List ℕ) (id : FileId) where
  pub finds : find image id ≡ Ok tt → Finds image id
  unfolding find
  finds e =
      let n = id.number in
      let v = passed_first (eqb id.volume 0) refusal.Relvol _ e in
      let u = passed_then (find_number image n) _ v.1 in
      let w = find-is image n u.0 in
      let q = passed_first (eqb (h_fseq (header image n)) id.sequence) refusal.Sequence _ u.1 in
      let s = passed-last (eqb (segment (header image n)) 0) refusal.Segment q.1 in
      record {
        relvol = eqb-true id.volume 0 v.0;
        first = (w.0, w.1, eqb-true (segment (header image n)) 0 s);
        sequence = eqb-true (h_fseq (header image n)) id.sequence q.0;
      }

  pub opened : {gate : Gate} → open_by gate image id ≡ Ok tt → Opened gate image id
  unfolding open_by open_on access chained
  opened {gate} e =
      let v = passed_then (open_volume image) _ e in
      let f = passed_then (find image id) _ v.1 in
      let g = passed_then (gate (header image id.number)) _ f.1 in
      let a = passed_then (access image id) (chained image id) g.1 in
      record {
        volume = v.0;
        found = finds f.0;
        admitted = g.0;
        unlocked = not-true (locked (header image id.number)) (passed-last (not (locked (header image id.number))) refusal.Locked a.0);
        chain = passed-last (good_chain image id.number) refusal.Chain a.1;
      }

-- A refusal is what the calls that go on are told.
pub tells-refused : (image : List ℕ) (id : FileId) (o : Outcome) (file : Answer OpenedOn) (r : Refusal) → file ≡ Err r → o ≡ Err r → Tells image id o file
tells-refused image id o file r q e = rw q e

pub places-refused : (image : List ℕ) (id : FileId) (o : Outcome) (file : Answer OpenFile) (at : List ℕ) (r : Refusal) → file ≡ Err r → o ≡ Err r
    → TellsPlaces image id o file at
places-refused image id o file at r q e = rw q e

-- Without a user code nothing is asked.
pub anyone-passed : (h : List ℕ) → anyone h ≡ Ok tt
unfolding anyone
anyone-passed h = refl

-- Opening a file by its parts, whatever the gate.
module _ (gate : Gate) (image : List ℕ) (id : FileId) where
  pub on-unfound : (r : Refusal) → find image id ≡ Err r → open_on gate image id ≡ Err r
  unfolding open_on
  on-unfound r e = then-refused (find image id) _ r e

  pub on-denied : find image id ≡ Ok tt → (r : Refusal) → gate (header image id.number) ≡ Err r → open_on gate image id ≡ Err r
  unfolding open_on
  on-denied f r e = then-passed (find image id) _ f ∙ then-refused (gate (header image id.number)) _ r e

  module _ (f : find image id ≡ Ok tt) (a : gate (header image id.number) ≡ Ok tt) where
    on-admitted : open_on gate image id ≡ (access image id then chained image id)
    unfolding open_on
    on-admitted = then-passed (find image id) _ f ∙ then-passed (gate (header image id.number)) (access image id then chained image id) a

    pub on-locked : (r : Refusal) → access image id ≡ Err r → open_on gate image id ≡ Err r
    on-locked r e = on-admitted ∙ then-refused (access image id) (chained image id) r e

    pub on-chained : access image id ≡ Ok tt → open_on gate image id ≡ chained image id
    on-chained e = on-admitted ∙ then-passed (access image id) (chained image id) e

  pub by-unopened : (r : Refusal) → open_volume image ≡ Err r → open_by gate image id ≡ Err r
  unfolding open_by
  by-unopened r e = then-refused (open_volume image) (open_on gate image id) r e

  -- On a volume that opens.
  pub by-on : open_volume image ≡ Ok tt → open_by gate image id ≡ open_on gate image id
  unfolding open_by
  by-on o = then-passed (open_volume image) (open_on gate image id) o

  -- An ID with another sequence number is refused.
  pub record Refuses : Type 0 where
    pub why : Refusal
    pub is : open_by gate image id ≡ Err why

  pub refuses : (h_fseq (header image id.number) ≡ id.sequence → ⊥) → Refuses
  refuses other = go (open_by gate image id) refl
    where
      go : (o : Outcome) → open_by gate image id ≡ o → Refuses
      go (Ok tt) e = absurd (other (opened image id e).found.sequence)
      go (Err r) e = record { why = r; is = e }
