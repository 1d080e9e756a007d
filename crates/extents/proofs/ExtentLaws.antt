-- Laws of extents: what asking for one answers by the first test that is not met, and what the answer tells in the words of mapping.
use Rattle.answer.specs.declared.types.Run.{Run}
use Rattle.std.specs.Prelude.{Ok, Err}
use mathlib.Core.Path.{◌≡◌, refl, sym, ap, subst, ◌∙◌}
use mathlib.Core.Logic.{◌⊎◌, inl, inr}
use mathlib.Core.Bool.{and-eq-true_iff}
use mathlib.Core.List.{List}
use Prim.Native.Nat.{ℕ, ◌+◌, ◌-◌, ◌≤◌, ◌<◌}
use native.Mathlib.Omega.{arith}
use borrow.Author.Tests.{leb-true, le-leb}
use lib.Dec.{leb}
use lib.ListN.{length, get_or}
use Rattle.answer.specs.declared.types.FileId.{FileId}
use Rattle.answer.specs.declared.types.Lbn.{Lbn}
use Rattle.answer.specs.declared.refusal.Refusal.{Refusal}
use Rattle.answer.specs.declared.refusal.Refusal.TheVariants as refusal
use Rattle.answer.specs.Outcome.{unless, ◌then◌, Outcome, Answer}
use Rattle.answer.proofs.OutcomeLaws.{passed_then, passed-last}
use Rattle.answer.specs.Answers.{answer_of}
use Rattle.chains.specs.Chains.{file_blocks}
use Rattle.open_file.specs.Opening.{open_file}
use Rattle.mapping.specs.Mapping.{has_vbn, lbn_of, find_vbn, map_answer}
use Rattle.mapping.proofs.MappingLaws.{map-done}
use Rattle.rows.specs.declared.Row.{Row}
use Rattle.rows.specs.declared.Row.TheVariants.{Ahead, Open, Ended}
use Rattle.rows.specs.Rows.{row_length, row_in}
use Rattle.extents.specs.Extents.{extent_answer}
use Rattle.extents.specs.Claims.{ExtentsMap}
use Rattle.rows.proofs.RowLaws.{InRow, Told, told, row_has, row-some}

-- The blocks of the file that an ID names.
abbrev pub blocks : List ℕ → FileId → List ℕ
blocks image id = file_blocks image id.number

module _ (image : List ℕ) (id : FileId) (vbn : ℕ) where
  pub extent-refused : (r : Refusal) → open_file image id ≡ Err r → extent_answer image id vbn ≡ Err r
  unfolding extent_answer answer_of find_vbn ◌then◌
  extent-refused r e = rw e

  module _ (e : open_file image id ≡ Ok tt) where
    module _ (low : 1 ≤ vbn) (high : vbn ≤ length (blocks image id)) (r : Row) (q : r ≡ row_in (blocks image id) (vbn - 1)) where
      row-told : Told (blocks image id) (vbn - 1) r
      row-told = told (blocks image id) (vbn - 1) (omega arith) r q

      -- The row begins.
      pub extent-begins : (k : ℕ) → r ≡ Ahead k → ⊥
      extent-begins k a = rw a at row-told

      -- Where it begins and how long it is, whether it goes on to the last block or ends before.
      pub extent-done : (lbn : Lbn) (c : ℕ) → (r ≡ Open lbn c) ⊎ (r ≡ Ended lbn c) → extent_answer image id vbn ≡ Ok (record { lbn = lbn; count = c })
      unfolding extent_answer answer_of find_vbn has_vbn lbn_of unless ◌then◌
      extent-done lbn c (inl s) =
          let l : Told (blocks image id) (vbn - 1) (Open lbn c) = rw s at row-told in
          rw (e, le-leb 1 vbn low, le-leb vbn (length (blocks image id)) high, ← l.0, ← l.1)
      extent-done lbn c (inr s) =
          let l : Told (blocks image id) (vbn - 1) (Ended lbn c) = rw s at row-told in
          rw (e, le-leb 1 vbn low, le-leb vbn (length (blocks image id)) high, ← l.0, ← l.1)

  -- What is known of a VBN that was found.
  pub record Found : Type 0 where
    pub opens : open_file image id ≡ Ok tt
    pub low : 1 ≤ vbn
    pub high : vbn ≤ length (blocks image id)

  found : find_vbn image id vbn ≡ Ok tt → Found
  unfolding find_vbn has_vbn
  found e =
      let both = passed_then (open_file image id) _ e in
      let tests = (and-eq-true_iff (leb 1 vbn) (leb vbn (length (blocks image id)))).0 (passed-last (has_vbn image id.number vbn) refusal.Vbn both.1) in
      record { opens = both.0; low = leb-true 1 vbn tests.0; high = leb-true vbn (length (blocks image id)) tests.1 }

  -- What is known by the answer of asking for an extent, and by that of mapping.
  abbrev ExtentTold : Answer Run → Type 0
  ExtentTold (Ok run) = Found × (run.lbn.0 ≡ get_or (blocks image id) (vbn - 1) 0) × (run.count ≡ row_length (blocks image id) (vbn - 1))
  ExtentTold (Err r) = map_answer image id vbn ≡ Err r

  extent-told : (a : Answer Run) → extent_answer image id vbn ≡ a → ExtentTold a
  unfolding extent_answer answer_of map_answer lbn_of
  extent-told a e = subst ExtentTold e (go (find_vbn image id vbn) refl)
    where
      go : (o : Outcome) → find_vbn image id vbn ≡ o → ExtentTold (extent_answer image id vbn)
      go (Ok tt) q = rw q (found q, refl, refl)
      go (Err r) q = rw q (rw q)

  abbrev MapTold : Answer Lbn → Type 0
  MapTold (Ok lbn) = Found × (lbn.0 ≡ get_or (blocks image id) (vbn - 1) 0)
  MapTold (Err r) = Unit

  map-told : (a : Answer Lbn) → map_answer image id vbn ≡ a → MapTold a
  unfolding map_answer answer_of lbn_of
  map-told a e = subst MapTold e (go (find_vbn image id vbn) refl)
    where
      go : (o : Outcome) → find_vbn image id vbn ≡ o → MapTold (map_answer image id vbn)
      go (Ok tt) q = rw q (found q, refl)
      go (Err r) q = rw q tt

-- An extent, in the words of mapping.
module _ (image : List ℕ) (id : FileId) (vbn : ℕ) (run : Run) (e : extent_answer image id vbn ≡ Ok run) where
  abbrev place : ℕ
  place = vbn - 1

  abbrev lbn : Lbn
  lbn = run.lbn

  abbrev c : ℕ
  c = run.count

  known : Found image id vbn × (lbn.0 ≡ get_or (blocks image id) place 0) × (c ≡ row_length (blocks image id) place)
  known = extent-told image id vbn (Ok run) e

  inside : place < length (blocks image id)
  inside = omega (arith, known.0.low, known.0.high)

  row : InRow (blocks image id) place c
  row = rw known.2 (row_has (blocks image id) place inside)

  extent-some : 0 < c
  extent-some = rw known.2 (row-some (blocks image id) place inside)

  extent-each : (i : ℕ) → i < c → map_answer image id (vbn + i) ≡ Ok (record { 0 = lbn.0 + i })
  extent-each i l =
      let f = known.0 in
      let p : vbn + i - 1 ≡ place + i = omega (arith, f.low) in
      map-done image id (vbn + i) f.opens (record { 0 = lbn.0 + i }) (omega (arith, f.low)) (omega (arith, row.inside, f.low))
      (ap (λ (n : ℕ). n + i) known.1 ∙ sym (row.each i l) ∙ ap (λ (n : ℕ). get_or (blocks image id) n 0) (sym p))

  extent-most : map_answer image id (vbn + c) ≡ Ok (record { 0 = lbn.0 + c }) → ⊥
  extent-most q =
      let m = map-told image id (vbn + c) (Ok (record { 0 = lbn.0 + c })) q in
      let p : vbn + c - 1 ≡ place + c = omega (arith, known.0.low) in
      row.end (omega (arith, m.0.high, known.0.low))
      (ap (λ (n : ℕ). get_or (blocks image id) n 0) (sym p) ∙ sym m.1 ∙ ap (λ (n : ℕ). n + c) known.1)

pub extents_map : ExtentsMap
extents_map = record {
  some = extent-some;
  each = λ image id vbn run i e l. extent-each image id vbn run e i (omega arith);
  most = extent-most;
  refused = λ image id vbn r e. extent-told image id vbn (Err r) e;
}
