-- The chain of file 1 and the index file's headers are the same: what was read in the part that earlier segments map is what the whole has there.
use mathlib.Core.Path.{◌≡◌, refl, sym, ap, ◌∙◌}
use mathlib.Core.Bool.{Bool, true, false}
use mathlib.Core.List.{List, [], ◌∷◌, ◌++◌, append-nil, append_assoc}
use Prim.Native.Nat.{ℕ, zero, suc, ◌+◌, ◌-◌, ◌≤◌, ◌<◌}
use native.Mathlib.Numerals.{add-one}
use native.Mathlib.Omega.{arith}
use borrow.Author.Tests.{eq-eqb, eqb-true, le-leb}
use lib.ListN.{length, get_or, length-append, get_or-append}
use Rattle.image.specs.Blocks.{block}
use Rattle.header.specs.Fields.{h_fseq, segment, m_efnu, m_efsq}
use Rattle.pointers.specs.Pointers.{blocks_of}
use Rattle.volume.specs.Volume.{ibsz, iblb, part_slot, follows, leads_on, places_from, places, index, index_ends, slot, slots, has_slot, header, is_number}
use Rattle.pointers.specs.Pointers.{flat}
use Rattle.volume.proofs.IndexLaws.{mapped-none, mapped-more, from_first, from_end, from_more, from-none, Leads, leads, used_low}
use Rattle.volume.proofs.VolumeLaws.{Opens, slot-first}
use Rattle.chains.specs.Chains.{links_on, good_link, chain, chain_of, good_link_of, good_chain, file_blocks}
use Rattle.lists.specs.Lists.{every}
use Rattle.chains.proofs.LinkLaws.{link-end, link-more}
use Rattle.chains.proofs.ChainLaws.{chain-end, chain_more, flat-end, flat-more, every-end, every_more}

module _ (image : List ℕ) where
  -- The last of these headers has no further one.
  abbrev Ends : List ℕ → Type 0
  Ends ls = m_efnu (block image (get_or ls (length ls - 1) 0)) ≡ 0

  ends_more : (at x : ℕ) (ls : List ℕ) → Ends (at ∷ x ∷ ls) → Ends (x ∷ ls)
  ends_more at x ls e =
      let f : suc (suc (length ls)) - 1 ≡ suc (suc (length ls) - 1) = omega arith in
      rw f at e

  -- A walk along the chain of file 1 and one along the places, from the header of number n, which lies at an LBN, on.
  pub record Same (f n : ℕ) (ls : List ℕ) : Type 0 where
    pub blocks : flat (header image) (chain (header image) f n) ≡ flat (block image) ls
    pub good : every (good_link_of image) (chain (header image) f n) ≡ true
    pub long : length (chain (header image) f n) ≡ length ls
    pub slots : (j : ℕ) → j < length ls → slot image (get_or (chain (header image) f n) j 0) ≡ get_or ls j 0

  -- What a header leads on to within the part, it links to in the whole.
  module _ (part rest h : List ℕ) (whole : index image ≡ part ++ rest) (t : leads_on image part h ≡ true) where
    l : Leads image part h
    l = leads image part h t

    low : 1 ≤ m_efnu h
    low = used_low image (m_efnu h) l.used

    pub part-slot : slot image (m_efnu h) ≡ part_slot (ibsz image) part (m_efnu h)
    unfolding slot
    part-slot = rw whole (get_or-append part rest 0 (1 + ibsz image + m_efnu h) (omega (arith, l.has, low)))

    part-header : header image (m_efnu h) ≡ block image (part_slot (ibsz image) part (m_efnu h))
    unfolding header
    part-header = ap (block image) part-slot

    part-has : m_efnu h ≤ slots image
    unfolding slots
    part-has = omega (arith, l.has, ap length whole, length-append part rest)

    pub part-links : good_link image h ≡ true
    unfolding links_on follows is_number has_slot
    part-links =
        link-more image h (λ z. omega (arith, low))
        ∙ rw (l.used, le-leb (m_efnu h) (slots image) part-has, part-header, l.whole, eq-eqb (h_fseq (block image (part_slot (ibsz image) part (m_efnu h)))) (m_efsq h) l.sequence)
        (eq-eqb (segment (block image (part_slot (ibsz image) part (m_efnu h)))) (segment h + 1) l.next)

  -- The header at hand is the last.
  same_end : (f n at : ℕ) → slot image n ≡ at → m_efnu (block image at) ≡ 0 → Same (f + 1) n (at ∷ [])
  unfolding header good_link_of
  same_end f n at here e =
      let z : m_efnu (header image n) ≡ 0 = rw here e in
      record {
        blocks = flat-end (header image) f n z ∙ rw (here, mapped-more image at [], mapped-none image) (sym (append-nil (blocks_of (block image at))));
        good = every-end (header image) (good_link_of image) f n z ∙ rw (link-end image (header image n) z);
        long = ap length (chain-end (header image) f n z);
        slots = λ j l. let q : j ≡ 0 = omega arith in rw (q, chain-end (header image) f n z) here;
      }

  -- There is a further one.
  same-on : (f n at : ℕ) (ls : List ℕ) → slot image n ≡ at → (m_efnu (block image at) ≡ 0 → ⊥) → good_link image (block image at) ≡ true
      → Same f (m_efnu (block image at)) ls → Same (f + 1) n (at ∷ ls)
  unfolding header good_link_of
  same-on f n at ls here ne good s =
      let nz : m_efnu (header image n) ≡ 0 → ⊥ = λ z. ne (rw here at z) in
      record {
        blocks = flat-more (header image) f n nz ∙ rw (here, mapped-more image at ls, s.blocks);
        good = every_more (header image) (good_link_of image) f n nz ∙ rw (here, good) s.good;
        long = ap length (chain_more (header image) f n nz) ∙ rw here (ap suc s.long);
        slots = λ j l. rw (chain_more (header image) f n nz) (go j l);
      }
    where
      go : (j : ℕ) → j < suc (length ls) → slot image (get_or (n ∷ chain (header image) f (m_efnu (header image n))) j 0) ≡ get_or (at ∷ ls) j 0
      go zero l = here
      go (suc j) l = rw here (s.slots j (omega arith))

  abbrev Claim : ℕ → Type 0
  Claim f =
      (part : List ℕ) (at n : ℕ) → index image ≡ part ++ flat (block image) (places_from image f part at) → slot image n ≡ at
      → 1 ≤ length (places_from image f part at) → Ends (places_from image f part at) → Same f n (places_from image f part at)

  module _ (f : ℕ) (on : Claim f) (part : List ℕ) (at n : ℕ) (here : slot image n ≡ at) where
    abbrev h : List ℕ
    h = block image at

    abbrev more : List ℕ
    more = part ++ blocks_of h

    abbrev rest : List ℕ
    rest = places_from image f more (part_slot (ibsz image) more (m_efnu h))

    module _ (whole : index image ≡ part ++ flat (block image) (places_from image (f + 1) part at)) (e : leads_on image more h ≡ true) where
      all : index image ≡ more ++ flat (block image) rest
      all = whole ∙ rw (from_more image f part at e, mapped-more image at rest) (sym (append_assoc part (blocks_of h) (flat (block image) rest)))

      some-link : m_efnu h ≡ 0 → ⊥
      some-link z = omega (arith, used_low image (m_efnu h) (leads image more h e).used)

      tail : (ls : List ℕ) → rest ≡ ls → Ends (at ∷ ls) → Same (f + 1) n (at ∷ ls)
      tail [] q z = absurd (some-link z)
      tail (x ∷ ls) q z =
          same-on f n at (x ∷ ls) here some-link (part-links more (flat (block image) rest) h all e)
          (rw q at (on more (part_slot (ibsz image) more (m_efnu h)) (m_efnu h) all (part-slot more (flat (block image) rest) h all e) (rw q (omega arith)) (rw q (ends_more at x ls z))))

    claim-on : index image ≡ part ++ flat (block image) (places_from image (f + 1) part at) → Ends (places_from image (f + 1) part at) → Same (f + 1) n (places_from image (f + 1) part at)
    claim-on whole ends = go (leads_on image more h) refl
      where
        go : (t : Bool) → leads_on image more h ≡ t → Same (f + 1) n (places_from image (f + 1) part at)
        go false e =
            let last : m_efnu h ≡ 0 = rw (from_end image f part at e) at ends in
            rw (from_end image f part at e) (same_end f n at here last)
        go true e = rw (from_more image f part at e) (tail whole e rest refl (rw (from_more image f part at e) at ends))

  claim-more : (f : ℕ) → Claim f → Claim (f + 1)
  claim-more f on part at n whole here some ends = claim-on f on part at n here whole ends

  claim : (f : ℕ) → Claim f
  claim zero = λ part at n whole here some ends. absurd (omega (arith, some, ap length (from-none image part at)))
  claim (suc f) = rw (← add-one f) (claim-more f (claim f))

-- On a volume that opens.
module _ (image : List ℕ) (o : Opens image) where
  abbrev pub Headers : Type 0
  Headers = Same image 256 1 (places image)

  pub headers : Headers
  unfolding index places index_ends
  headers =
      claim image 256 [] (iblb image + ibsz image) 1 refl (slot-first o 1 (omega arith) (omega arith) ∙ omega arith)
      (rw (from_first image 255 [] (iblb image + ibsz image)) (omega arith)) (eqb-true _ 0 o.index-ends)

  pub file-index : file_blocks image 1 ≡ index image
  unfolding file_blocks chain_of index
  file-index = headers.blocks

  pub index-good : good_chain image 1 ≡ true
  unfolding good_chain chain_of
  index-good = headers.good

  -- The places are the slots of the numbers of the chain.
  pub index-long : length (chain_of image 1) ≡ length (places image)
  unfolding chain_of
  index-long = headers.long

  pub index-slots : (j : ℕ) → j < length (places image) → slot image (get_or (chain_of image 1) j 0) ≡ get_or (places image) j 0
  unfolding chain_of
  index-slots = headers.slots
