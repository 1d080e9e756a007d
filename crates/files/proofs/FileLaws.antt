-- Laws of FILES: what it says of a number by its tests one after the other, and what a volume has that passes it.
use Rattle.std.specs.Prelude.{Ok, Err, Some}
use mathlib.Core.Path.{◌≡◌, refl, sym, ap, ◌∙◌}
use mathlib.Core.Bool.{Bool, true, false, not, ◌&&◌, ◌||◌, false≢true, and-false, or-true}
use mathlib.Core.List.{List}
use Prim.Native.Nat.{ℕ, ◌+◌, ◌≤◌, ◌<◌}
use native.Mathlib.Decide.{ℕ_discrete, dec_le}
use native.Mathlib.Omega.{arith}
use borrow.Author.Tests.{eqb-true, eq-eqb, ne_eqb, le-leb, lt-leb}
use lib.Dec.{eqb, leb}
use Rattle.image.specs.Blocks.{block}
use Rattle.answer.specs.declared.refusal.Refusal.TheVariants as refusal
use Rattle.answer.specs.declared.types.Lbn.{Lbn}
use Rattle.header.specs.Fields.{h_fseq, segment}
use Rattle.volume.specs.Volume.{fmax, slots, has_slot, header, fault_of, in_use, is_number}
use Rattle.volume.specs.Opening.{Recorded}
use Rattle.volume.specs.declared.Volume.{Volume}
use Rattle.chains.specs.Chains.{slot_in_use}
use Rattle.chains.proofs.LinkLaws.{Found, slot-found}
use Rattle.slots.proofs.SlotLaws.{used-range, opened-fmax}
use Rattle.std.proofs.Common.{Fits, w8, get_or}
use Rattle.files.specs.Files.{is_known, bad_file, unmet_of, files_place, files}
use Rattle.files.proofs.SearchLaws.{search-passed, search-all, search-none, search-refused}

module _ (image : List ℕ) (n : ℕ) where
  pub bad-unused : in_use image n ≡ false → bad_file image n ≡ leb n 5
  unfolding bad_file is_known
  bad-unused u = rw u (go (leb n 5))
    where
      go : (b : Bool) → (b && true || false) ≡ b
      go true = refl
      go false = refl

  module _ (u : in_use image n ≡ true) where
    pub bad-slotless : slots image < n → bad_file image n ≡ true
    unfolding bad_file has_slot
    bad-slotless l = rw (u, lt-leb n (slots image) l, or-true)

    pub bad-torn : (fault_of image n ≡ 0 → ⊥) → bad_file image n ≡ true
    unfolding bad_file
    bad-torn f = rw (u, ne_eqb (fault_of image n) 0 f, and-false, or-true)

    module _ (l : n ≤ slots image) (f : fault_of image n ≡ 0) where
      pub bad-other : 5 < n → bad_file image n ≡ false
      unfolding bad_file has_slot
      bad-other h = rw (lt-leb n 5 h, u, le-leb n (slots image) l, eq-eqb (fault_of image n) 0 f)

      pub bad-known : n ≤ 5 → bad_file image n ≡ (not (eqb (h_fseq (header image n)) n) || not (eqb (segment (header image n)) 0))
      unfolding bad_file has_slot is_known
      bad-known h =
          rw (le-leb n 5 h, u, le-leb n (slots image) l, eq-eqb (fault_of image n) 0 f) (go (eqb (h_fseq (header image n)) n) (eqb (segment (header image n)) 0))
        where
          go : (a b : Bool) → (not (a && b) || false) ≡ (not a || not b)
          go true true = refl
          go true false = refl
          go false b = refl

-- A known file: in use with its own number as sequence, and segment 0.
pub record IsKnown (image : List ℕ) (n : ℕ) : Type 0 where
  pub used : in_use image n ≡ true
  pub sequence : h_fseq (header image n) ≡ n
  pub first : segment (header image n) ≡ 0

-- What a volume has that passes FILES.
pub record FilesPassed (image : List ℕ) : Type 0 where
  pub slotted : (n : ℕ) → in_use image n ≡ true → n ≤ slots image
  pub whole : (n : ℕ) → in_use image n ≡ true → fault_of image n ≡ 0
  pub known : (n : ℕ) → 1 ≤ n → n ≤ 5 → IsKnown image n

module _ (image : List ℕ) where
  module _ (n : ℕ) (good : bad_file image n ≡ false) where
    pub good-slotted : in_use image n ≡ true → n ≤ slots image
    good-slotted u = go (dec_le n (slots image))
      where
        go : Dec (n ≤ slots image) → n ≤ slots image
        go (yes l) = l
        go (no l) = absurd (false≢true (sym good ∙ bad-slotless image n u (omega arith)))

    good-whole : in_use image n ≡ true → fault_of image n ≡ 0
    good-whole u = go (ℕ_discrete (fault_of image n) 0)
      where
        go : Dec (fault_of image n ≡ 0) → fault_of image n ≡ 0
        go (yes e) = e
        go (no e) = absurd (false≢true (sym good ∙ bad-torn image n u e))

    good-known : n ≤ 5 → IsKnown image n
    good-known l = go (in_use image n) refl
      where
        neither : (a b : Bool) → (not a || not b) ≡ false → (a ≡ true) × (b ≡ true)
        neither true true e = (refl, refl)
        neither true false e = absurd (false≢true (sym e))
        neither false b e = absurd (false≢true (sym e))

        go : (t : Bool) → in_use image n ≡ t → IsKnown image n
        go false u = absurd (false≢true (sym good ∙ bad-unused image n u ∙ le-leb n 5 l))
        go true u =
            let r = neither (eqb (h_fseq (header image n)) n) (eqb (segment (header image n)) 0) (sym (bad-known image n u (good-slotted u) (good-whole u) l) ∙ good) in
            record { used = u; sequence = eqb-true (h_fseq (header image n)) n r.0; first = eqb-true (segment (header image n)) 0 r.1 }

  pub files-passed : 16 ≤ fmax image → files image ≡ Ok tt → FilesPassed image
  unfolding files files_place
  files-passed enough e =
      let good : (n : ℕ) → 1 ≤ n → n ≤ fmax image → bad_file image n ≡ false =
      λ n l h. search-passed (bad_file image) 1 (fmax image) _ e n l (omega arith) in
      record {
        slotted = λ n u. let r = used-range image n u in good-slotted n (good n r.0 r.1) u;
        whole = λ n u. let r = used-range image n u in good-whole n (good n r.0 r.1) u;
        known = λ n l h. good-known n (good n l (omega arith)) h;
      }

  pub files-all : FilesPassed image → files image ≡ Ok tt
  unfolding files files_place
  files-all f = search-all (bad_file image) 1 (fmax image) _ (λ n l h. go n l (in_use image n) refl (dec_le n 5))
    where
      go : (n : ℕ) → 1 ≤ n → (t : Bool) → in_use image n ≡ t → Dec (n ≤ 5) → bad_file image n ≡ false
      go n l true u (yes h) =
          let k = f.known n l h in
          rw (bad-known image n u (f.slotted n u) (f.whole n u) h, eq-eqb (h_fseq (header image n)) n k.sequence, eq-eqb (segment (header image n)) 0 k.first)
      go n l true u (no h) = bad-other image n u (f.slotted n u) (f.whole n u) (omega arith)
      go n l false u (yes h) = absurd (false≢true (sym u ∙ (f.known n l h).used))
      go n l false u (no h) = rw (bad-unused image n u, lt-leb n 5 (omega arith))

-- What FILES comes to by the place that is found.
module _ (image : List ℕ) where
  pub files-none : files_place image ≡ fmax image + 1 → files image ≡ Ok tt
  unfolding files files_place
  files-none e = search-none (bad_file image) 1 (fmax image) _ (omega (arith, e))

  pub files-refused : (n : ℕ) → files_place image ≡ n → n ≤ fmax image → files image ≡ Err (refusal.Files n (unmet_of image n))
  unfolding files files_place
  files-refused n e l = rw (← e) (search-refused (bad_file image) 1 (fmax image) _ (omega (arith, e)))

-- A number in use is then one that has a slot.
pub files-number : (image : List ℕ) → FilesPassed image → (n : ℕ) → in_use image n ≡ true → is_number image n ≡ true
unfolding is_number has_slot
files-number image f n u = rw (u, le-leb n (slots image) (f.slotted n u))

-- The header at the slot that was found is that of a number in use.
pub number-read : (image : List ℕ) (n : ℕ) (lbn : Lbn) (h : List ℕ) → slot_in_use image n ≡ Some lbn → h ≡ block image lbn.0 → (is_number image n ≡ true) × (h ≡ header image n)
unfolding header
number-read image n lbn h e read =
    let found : Found image n (Some lbn) = slot-found image n _ e in
    (found.0, read ∙ ap (block image) (omega (arith, found)))

-- An opened volume has fewer than 65,536 file numbers: H.FMAX is a word.
pub fmax-few : (image : List ℕ) (v : Volume) {at : List ℕ} → Recorded image v at → ((i : ℕ) → Fits w8 (get_or image i 0)) → (v.fmax ≡ fmax image) × (v.fmax < 65536)
fmax-few image v r bytes = opened-fmax image v r (record { each = λ i. omega (arith, bytes i) })
