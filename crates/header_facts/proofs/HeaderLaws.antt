-- Laws of finding the header of a number, and of what is answered from it.
use Rattle.std.specs.Prelude.{Ok, Err}
use mathlib.Core.Path.{◌≡◌}
use mathlib.Core.Bool.{true}
use mathlib.Core.List.{List}
use Prim.Native.Nat.{ℕ, ◌≤◌, ◌<◌}
use native.Mathlib.Omega.{arith}
use borrow.Author.Tests.{lt-ltb, le-ltb}
use lib.ListN.{length}
use Rattle.answer.specs.declared.types.Run.{Run}
use Rattle.answer.specs.declared.refusal.Refusal.{Refusal}
use Rattle.answer.specs.declared.refusal.Refusal.TheVariants as refusal
use Rattle.answer.specs.Outcome.{unless, ◌then◌}
use Rattle.answer.specs.Answers.{answer_of}
use Rattle.answer.proofs.OutcomeLaws.{passed_then}
use Rattle.header.specs.Fields.{h_idof}
use Rattle.pointers.specs.Pointers.{pointer_lbn, pointer_count, pointers, Fits}
use Rattle.whole.proofs.WholeLaws.{whole_is}
use Rattle.home.specs.Home.{blocks}
use Rattle.volume.specs.Volume.{header, fault_of, is_number}
use Rattle.volume.specs.Opening.{open_volume}
use Rattle.chains.proofs.NumberLaws.{number-length, number_fits}
use Rattle.chains.specs.Finding.{find_number}
use Rattle.chains.proofs.FindingLaws.{find-is}
use Rattle.header_facts.specs.declared.types.Header.{Header}
use Rattle.header_facts.specs.Headers.{find_header, facts_of, header_answer, find_pointer, pointer_answer}
use Rattle.pointers.specs.Pointers.{pointer_at}

module _ (image : List ℕ) (n : ℕ) where
  -- The volume is opened first.
  pub find-closed : (r : Refusal) → open_volume image ≡ Err r → find_header image n ≡ Err r
  unfolding find_header ◌then◌
  find-closed r o = rw o

  pub find-opened : open_volume image ≡ Ok tt → find_header image n ≡ find_number image n
  unfolding find_header ◌then◌
  find-opened o = rw o

  -- A header that was found is that of a number in use on a volume that opens, and is whole.
  tested : find_header image n ≡ Ok tt → (open_volume image ≡ Ok tt) × (is_number image n ≡ true) × (fault_of image n ≡ 0)
  unfolding find_header
  tested e =
      let o = passed_then (open_volume image) _ e in
      let f = find-is image n o.1 in
      (o.0, f.0, f.1)

  -- Its pointers lie in it.
  pub found-fits : find_header image n ≡ Ok tt → Fits (header image n)
  found-fits e = let t = tested e in number_fits image n t.1 t.0 t.2

  -- And so does its ident area, which ends before the map area does.
  pub found-ident : find_header image n ≡ Ok tt → (length (header image n) ≡ 512) × (h_idof (header image n) ≤ 250)
  unfolding fault_of
  found-ident e =
      let t = tested e in
      let w = whole_is (blocks image) n (header image n) t.2 in
      (number-length image n t.1 t.0, omega (arith, w.map, w.room))

  -- What the header says.
  pub header_refused : (r : Refusal) → find_header image n ≡ Err r → Err r ≡ header_answer image n
  unfolding header_answer answer_of
  header_refused r e = rw e

  pub header-done : find_header image n ≡ Ok tt → (f : Header) → f ≡ facts_of (header image n) → Ok f ≡ header_answer image n
  unfolding header_answer answer_of
  header-done e f s = rw (e, s)

  -- A pointer of it.
  module _ (p : ℕ) where
    pub pointer-refused : (r : Refusal) → find_header image n ≡ Err r → Err r ≡ pointer_answer image n p
    unfolding pointer_answer answer_of find_pointer ◌then◌
    pointer-refused r e = rw e

    module _ (e : find_header image n ≡ Ok tt) where
      pub pointer-absent : pointers (header image n) ≤ p → Err refusal.Absent ≡ pointer_answer image n p
      unfolding pointer_answer answer_of find_pointer unless ◌then◌
      pointer-absent l = rw (e, le-ltb p (pointers (header image n)) l)

      pub pointer-done : p < pointers (header image n) → (run : Run)
          → run.lbn.0 ≡ pointer_lbn (header image n) (pointer_at (header image n) p)
          → run.count ≡ pointer_count (header image n) (pointer_at (header image n) p)
          → Ok run ≡ pointer_answer image n p
      unfolding pointer_answer answer_of find_pointer unless ◌then◌
      pointer-done l run a b = rw (e, lt-ltb p (pointers (header image n)) l, ← a, ← b)
