-- Laws of a walk along the index file's headers that keeps the places seen so far.
use Rattle.std.specs.Prelude.{Some, None, Result, Ok, Err}
use Rattle.std.specs.Result.{result_ok}
use Rattle.answer.specs.declared.types.Lbn.{Lbn}
use mathlib.Core.Path.{◌≡◌, refl, sym, ap, ◌∙◌}
use mathlib.Core.Bool.{true, false, and-false}
use mathlib.Core.List.{List, [], ◌∷◌, ◌++◌, append_assoc}
use Prim.Native.Nat.{ℕ, ◌+◌, ◌*◌, ◌-◌, ◌≤◌, ◌<◌}
use native.Mathlib.Omega.{arith}
use borrow.Author.Tests.{eq-eqb, ne_eqb, le-leb, lt-leb}
use lib.ListN.{length, get_or, take, set, length-append}
use lib.Seq.{get_or-take}
use Rattle.image.specs.Blocks.{block}
use Rattle.image.specs.Stores.{zeros}
use Rattle.image.proofs.BlockLaws.{block-length}
use Rattle.header.specs.Fields.{m_efnu}
use Rattle.pointers.specs.Pointers.{blocks_of, place_in, flat}
use Rattle.home.specs.Home.{blocks}
use Rattle.volume.specs.Volume.{ibsz, iblb, in_use, part_slot, part_slots, follows, leads_on, places_from, places, index_ends, padded}
use Rattle.volume.specs.Opening.{FirstFit, Walked}
use Rattle.volume.proofs.IndexLaws.{Lies, lies-fits, AllLie, lie-none, lie-last, Inside, mapped-inside, mapped-last, leads-none, leads-lies, from_end, from_more, from_last, ends_last, padded-take, padded-length, padded-more, Found, found, leads-unused}

-- A header leads on to what lies at a place of the part, and to nothing past it.
module _ (image part h : List ℕ) (i : ℕ) (place : i ≡ 1 + ibsz image + m_efnu h) where
  pub leads-at : in_use image (m_efnu h) ≡ true → i < length part → (l : ℕ) → l ≡ get_or part i 0 → leads_on image part h ≡ follows (blocks image) h (block image l)
  unfolding leads_on
  leads-at u in-part l e =
      let e' : part_slot (ibsz image) part (m_efnu h) ≡ l = ap (λ (k : ℕ). get_or part k 0) (sym place) ∙ sym e in
      rw (u, le-leb (m_efnu h) (part_slots (ibsz image) part) (omega arith), e')

  pub leads-past : (m_efnu h ≡ 0 → ⊥) → length part ≤ i → leads_on image part h ≡ false
  unfolding leads_on
  leads-past ne past = rw (lt-leb (m_efnu h) (part_slots (ibsz image) part) (omega arith), and-false)

-- A walk has come to the header at an LBN; the places of those before it are kept in an array.
pub record Along (image arr : List ℕ) (count at : ℕ) : Type 0 where
  pub so : List ℕ
  pub kept : arr ≡ padded so
  pub long : length so ≡ count
  pub room : count ≤ 255
  pub all : places image ≡ so ++ places_from image (256 - count) (flat (block image) so) at
  pub lie : AllLie image so
  pub here : Lies image at

pub along-start : (image : List ℕ) (at : ℕ) → at ≡ iblb image + ibsz image → Lies image at → Along image (zeros 256) 0 at
unfolding places padded flat
along-start image at e here = record {
  so = [];
  kept = refl;
  long = refl;
  room = omega arith;
  all = rw e;
  lie = lie-none image;
  here = here;
}

module _ (image arr : List ℕ) (count at : ℕ) (a : Along image arr count at) where
  -- The places with the one at hand, and what their headers map.
  abbrev pub seen : List ℕ
  seen = a.so ++ (at ∷ [])

  seen-long : length seen ≡ count + 1
  seen-long = omega (arith, length-append a.so (at ∷ []), a.long)

  pub along-stored : set arr count at ≡ padded seen
  along-stored = rw a.kept (padded-more a.so count at a.long a.room)

  pub along-take : take (count + 1) (set arr count at) ≡ seen
  along-take = rw along-stored (padded-take seen (count + 1) seen-long)

  pub along-length : length (set arr count at) ≡ 256
  along-length = rw along-stored (padded-length seen (omega (arith, seen-long, a.room)))

  pub along-lie : AllLie image seen
  along-lie = lie-last image a.so at a.lie a.here

  pub along-fit : length image ≡ 512 * blocks image → FirstFit image (set arr count at) (count + 1)
  along-fit size j l =
      let e : get_or (set arr count at) j 0 ≡ get_or seen j 0 = sym (get_or-take (count + 1) (set arr count at) j 0 l) ∙ ap (λ (ls : List ℕ). get_or ls j 0) along-take in
      rw e (lies-fits image size (get_or seen j 0) (along-lie j (omega (arith, seen-long))))

  pub along-inside : Inside image (flat (block image) seen)
  along-inside = mapped-inside image seen along-lie

  part : flat (block image) seen ≡ flat (block image) a.so ++ blocks_of (block image at)
  part = mapped-last image a.so at

  some : 256 - count ≡ 255 - count + 1
  some = omega (arith, a.room)

  rest : places image ≡ a.so ++ places_from image (255 - count + 1) (flat (block image) a.so) at
  rest = a.all ∙ ap (λ (f : ℕ). a.so ++ places_from image f (flat (block image) a.so) at) some

  -- The header at hand is the last: it leads on to none, or there are 256.
  stops : leads_on image (flat (block image) seen) (block image at) ≡ false → places image ≡ seen
  stops e = rest ∙ ap (λ (l : List ℕ). a.so ++ l) (from_end image (255 - count) (flat (block image) a.so) at (rw (← part) e))

  full : count + 1 ≡ 256 → places image ≡ seen
  full e =
      let f : 256 - count ≡ 1 = omega arith in
      a.all ∙ rw f (ap (λ (l : List ℕ). a.so ++ l) (from_last image (flat (block image) a.so) at))

  bad : (m_efnu (block image at) ≡ 0 → ⊥) → places image ≡ seen → index_ends image ≡ false
  bad ne e = ends_last image a.so at e ∙ ne_eqb (m_efnu (block image at)) 0 ne

  pub along-bad : (m_efnu (block image at) ≡ 0 → ⊥) → leads_on image (flat (block image) seen) (block image at) ≡ false → index_ends image ≡ false
  along-bad ne e = bad ne (stops e)

  pub along-full : (m_efnu (block image at) ≡ 0 → ⊥) → count + 1 ≡ 256 → index_ends image ≡ false
  along-full ne e = bad ne (full e)

  pub along-end : m_efnu (block image at) ≡ 0 → Walked image (Some (count + 1)) (set arr count at)
  along-end e =
      let f = stops (leads-none image (flat (block image) seen) (block image at) e) in
      let ends : index_ends image ≡ true = ends_last image a.so at f ∙ eq-eqb (m_efnu (block image at)) 0 e in
      (ends, rw f (sym seen-long), rw f along-stored)

  -- The walk comes to the header that the one at hand leads on to.
  pub along-next : leads_on image (flat (block image) seen) (block image at) ≡ true → count + 1 ≤ 255 → (next : ℕ)
      → next ≡ part_slot (ibsz image) (flat (block image) seen) (m_efnu (block image at)) → Along image (set arr count at) (count + 1) next
  along-next e room next f =
      let more = flat (block image) a.so ++ blocks_of (block image at) in
      let g : 255 - count ≡ 256 - (count + 1) = omega arith in
      record {
        so = seen;
        kept = along-stored;
        long = seen-long;
        room = room;
        all =
            rw (f, part, ← g)
            (rest ∙ ap (λ (l : List ℕ). a.so ++ l) (from_more image (255 - count) (flat (block image) a.so) at (rw (← part) e))
            ∙ sym (append_assoc a.so (at ∷ []) (places_from image (255 - count) more (part_slot (ibsz image) more (m_efnu (block image at))))));
        lie = along-lie;
        here = rw f (leads-lies image (flat (block image) seen) (block image at) along-inside e);
      }

-- The header at hand links to number n, whose slot is at a place of the part that the headers up to it map.
module _ (image arr : List ℕ) (count at m n : ℕ) (a : Along image arr count at) (size : length image ≡ 512 * blocks image) (mm : m ≡ ibsz image) (nn : n ≡ m_efnu (block image at)) (ne : n ≡ 0 → ⊥) where
  linked : m_efnu (block image at) ≡ 0 → ⊥
  linked z = ne (nn ∙ z)

  abbrev mapped : List ℕ
  mapped = flat (block image) (seen image arr count at a)

  spot : 1 + m + n ≡ 1 + ibsz image + m_efnu (block image at)
  spot = omega arith

  pub walk-unused : in_use image n ≡ false → index_ends image ≡ false
  walk-unused u = along-bad image arr count at a linked (leads-unused image mapped (block image at) (rw (← nn) u))

  placed : (p : Result Lbn ℕ) (i : ℕ) → i ≡ 1 + m + n → p ≡ place_in (flat (block image) (take (count + 1) (set arr count at))) i → Found mapped [] (1 + m + n) p
  placed p i e f =
      found mapped [] (1 + m + n) p
      (ap (λ (ls : List ℕ). place_in (flat (block image) ls) (1 + m + n)) (sym (along-take image arr count at a)) ∙ rw (← e) (sym f))

  pub walk-past : (p : Result Lbn ℕ) (i : ℕ) → i ≡ 1 + m + n → p ≡ place_in (flat (block image) (take (count + 1) (set arr count at))) i → None ≡ result_ok p → index_ends image ≡ false
  walk-past (Ok l) i e f none = absurd (cc)
  walk-past (Err k) i e f none = along-bad image arr count at a linked (leads-past image mapped (block image at) (1 + m + n) spot linked (placed (Err k) i e f).0)

  pub walk-found : (p : Result Lbn ℕ) (i : ℕ) → i ≡ 1 + m + n → p ≡ place_in (flat (block image) (take (count + 1) (set arr count at))) i → (l : Lbn) → Some l ≡ result_ok p
      → (1 + m + n < length mapped) × (l.0 ≡ get_or mapped (1 + m + n) 0)
  walk-found (Ok k) i e f l some =
      let same : l ≡ k = cc in
      let g = placed (Ok k) i e f in
      (g.0, ap (λ (x : Lbn). x.0) same ∙ g.1)
  walk-found (Err k) i e f l some = absurd (cc)

  -- The block there.
  module _ (l : Lbn) (f : (1 + m + n < length mapped) × (l.0 ≡ get_or mapped (1 + m + n) 0)) where
    pub next-long : length (block image l.0) ≡ 512
    next-long = block-length image l.0 (omega (arith, f.1, along-inside image arr count at a (1 + m + n) f.0, size))

    leads : in_use image n ≡ true → leads_on image mapped (block image at) ≡ follows (blocks image) (block image at) (block image l.0)
    leads u = leads-at image mapped (block image at) (1 + m + n) spot (rw (← nn) u) f.0 l.0 f.1

    pub walk-off : in_use image n ≡ true → follows (blocks image) (block image at) (block image l.0) ≡ false → index_ends image ≡ false
    walk-off u e = along-bad image arr count at a linked (leads u ∙ e)

    pub walk-on : in_use image n ≡ true → follows (blocks image) (block image at) (block image l.0) ≡ true
        → (count + 1 ≤ 255 → Along image (set arr count at) (count + 1) l.0) × (count + 1 ≡ 256 → index_ends image ≡ false)
    walk-on u e =
        (λ room. along-next image arr count at a (leads u ∙ e) room l.0 (f.1 ∙ ap (λ (i : ℕ). get_or mapped i 0) spot), λ full. along-full image arr count at a linked full)
