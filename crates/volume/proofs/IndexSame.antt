-- The index file's headers on two images: they lie at the same places where each of them is kept and the numbers of the further ones stay in use.
use mathlib.Core.Path.{◌≡◌, refl, sym, ap, ◌∙◌}
use mathlib.Core.Bool.{Bool, true, false, cond}
use mathlib.Core.List.{List, [], ◌∷◌, ◌++◌}
use Prim.Native.Nat.{ℕ, zero, suc, ◌+◌, ◌-◌, ◌≤◌, ◌<◌}
use native.Mathlib.Numerals.{add-one}
use native.Mathlib.Omega.{arith}
use borrow.Author.Tests.{eqb-true}
use lib.ListN.{length, get_or}
use Rattle.image.specs.Blocks.{block}
use Rattle.header.specs.Fields.{m_efnu}
use Rattle.pointers.specs.Pointers.{blocks_of}
use Rattle.home.specs.Home.{blocks}
use Rattle.volume.specs.Volume.{ibsz, iblb, in_use, part_slot, leads_on, places_from, places, index, index_ends}
use Rattle.pointers.specs.Pointers.{flat}
use Rattle.volume.proofs.IndexLaws.{mapped-none, mapped-more, from_first, from_end, from_more, from_last, leads, leads-none, used_low}

module _ (image image' : List ℕ) (n-same : blocks image' ≡ blocks image) (m-same : ibsz image' ≡ ibsz image) where
  -- Each of these headers is kept, and the number that it leads on to stays in use.
  pub record KeptAt (at : ℕ) : Type 0 where
    pub bytes : block image' at ≡ block image at
    pub used : (m_efnu (block image at) ≡ 0 → ⊥) → in_use image' (m_efnu (block image at)) ≡ in_use image (m_efnu (block image at))

  abbrev pub AllKept : List ℕ → Type 0
  AllKept ls = (j : ℕ) → j < length ls → KeptAt (get_or ls j 0)

  abbrev Ends : List ℕ → Type 0
  Ends ls = m_efnu (block image (get_or ls (length ls - 1) 0)) ≡ 0

  mapped-kept : (ls : List ℕ) → AllKept ls → flat (block image') ls ≡ flat (block image) ls
  mapped-kept [] all = mapped-none image' ∙ sym (mapped-none image)
  mapped-kept (at ∷ ls) all =
      mapped-more image' at ls
      ∙ rw ((all 0 (omega arith)).bytes, mapped-kept ls (λ j l. all (suc j) (omega arith)))
      (sym (mapped-more image at ls))

  leads-kept : (part : List ℕ) (at : ℕ) → KeptAt at → leads_on image part (block image at) ≡ true
      → block image' (part_slot (ibsz image) part (m_efnu (block image at))) ≡ block image (part_slot (ibsz image) part (m_efnu (block image at)))
      → leads_on image' part (block image at) ≡ true
  unfolding leads_on
  leads-kept part at k e next =
      let some : m_efnu (block image at) ≡ 0 → ⊥ = λ z. omega (arith, used_low image (m_efnu (block image at)) (leads image part (block image at) e).used) in
      rw (k.used some, n-same, m-same, next) e

  abbrev Claim : ℕ → Type 0
  Claim f = (part : List ℕ) (at : ℕ) → AllKept (places_from image f part at) → Ends (places_from image f part at) → places_from image' f part at ≡ places_from image f part at

  ends-tail : (x y : ℕ) (l : List ℕ) → Ends (x ∷ y ∷ l) → Ends (y ∷ l)
  ends-tail x y l e =
      let g : suc (suc (length l)) - 1 ≡ suc (suc (length l) - 1) = omega arith in
      rw g at e

  kept-tail : (x : ℕ) (l : List ℕ) → AllKept (x ∷ l) → AllKept l
  kept-tail x l all j m = all (suc j) (omega arith)

  -- One header more, after which there is at least one.
  module _ (f : ℕ) (on : Claim (f + 1)) (part : List ℕ) (at : ℕ) where
    abbrev h : List ℕ
    h = block image at

    abbrev more : List ℕ
    more = part ++ blocks_of h

    abbrev next : ℕ
    next = part_slot (ibsz image) more (m_efnu h)

    abbrev rest : List ℕ
    rest = places_from image (f + 1) more next

    abbrev last : List ℕ
    last =
        cond (leads_on image (more ++ blocks_of (block image next)) (block image next))
        (places_from image f (more ++ blocks_of (block image next)) (part_slot (ibsz image) (more ++ blocks_of (block image next)) (m_efnu (block image next)))) []

    goes_on : AllKept (at ∷ rest) → Ends (at ∷ rest) → leads_on image more h ≡ true → places_from image' (f + 1 + 1) part at ≡ at ∷ rest
    goes_on all ends e =
        let second : KeptAt next = rw (from_first image f more next) at (kept-tail at rest all) 0 (omega arith) in
        let here = all 0 (omega arith) in
        let on' : leads_on image' (part ++ blocks_of (block image' at)) (block image' at) ≡ true = rw here.bytes (leads-kept more at here e second.bytes) in
        from_more image' (f + 1) part at on'
        ∙ rw (here.bytes, m-same)
        (ap (λ (l : List ℕ). at ∷ l) (on more next (kept-tail at rest all) (rw (from_first image f more next) (ends-tail at next last (rw (from_first image f more next) at ends)))))

    stops : KeptAt at → m_efnu h ≡ 0 → places_from image' (f + 1 + 1) part at ≡ at ∷ []
    stops k z = from_end image' (f + 1) part at (rw k.bytes (leads-none image' more h z))

    claim-on : AllKept (places_from image (f + 1 + 1) part at) → Ends (places_from image (f + 1 + 1) part at)
        → places_from image' (f + 1 + 1) part at ≡ places_from image (f + 1 + 1) part at
    claim-on all ends = go (leads_on image more h) refl
      where
        go : (t : Bool) → leads_on image more h ≡ t → places_from image' (f + 1 + 1) part at ≡ places_from image (f + 1 + 1) part at
        go false e =
            let q = from_end image (f + 1) part at e in
            let all' : AllKept (at ∷ []) = rw q at all in
            let ends' : Ends (at ∷ []) = rw q at ends in
            stops (all' 0 (omega arith)) ends' ∙ sym q
        go true e =
            let q = from_more image (f + 1) part at e in
            goes_on (rw q at all) (rw q at ends) e ∙ sym q

  claim-one : Claim 1
  claim-one part at all ends = from_last image' part at ∙ sym (from_last image part at)

  claim : (f : ℕ) → Claim (f + 1)
  claim zero = claim-one
  claim (suc f) = rw (← add-one f) (claim-on f (claim f))

  pub places_same : iblb image' ≡ iblb image → AllKept (places image) → index_ends image ≡ true → places image' ≡ places image
  unfolding places index_ends
  places_same b-same all ends = rw (b-same, m-same) (claim 255 [] (iblb image + ibsz image) all (eqb-true _ 0 ends))

  pub index_kept : iblb image' ≡ iblb image → AllKept (places image) → index_ends image ≡ true → index image' ≡ index image
  unfolding index
  index_kept b-same all ends = ap (flat (block image')) (places_same b-same all ends) ∙ mapped-kept (places image) all

  places-some : 1 ≤ length (places image)
  unfolding places
  places-some = rw (from_first image 255 [] (iblb image + ibsz image)) (omega arith)

  pub ends-kept : iblb image' ≡ iblb image → AllKept (places image) → index_ends image ≡ true → index_ends image' ≡ true
  unfolding index_ends
  ends-kept b-same all ends = rw (places_same b-same all ends, (all (length (places image) - 1) (omega (arith, places-some))).bytes) ends
