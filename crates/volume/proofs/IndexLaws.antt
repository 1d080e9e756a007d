-- Laws of the index file's headers: the blocks that they map, how one leads on to the next, and where they lie.
use Rattle.answer.specs.declared.types.Lbn.{Lbn}
use Rattle.std.specs.Prelude.{Ok, Err, Result}
use mathlib.Core.Path.{◌≡◌, refl, sym, ap, subst, ◌∙◌}
use mathlib.Core.Bool.{Bool, true, false, cond, ◌&&◌, and-eq-true_iff}
use mathlib.Core.List.{List, [], ◌∷◌, ◌++◌, append-nil, append_assoc}
use Prim.Native.Nat.{ℕ, zero, suc, ◌+◌, ◌*◌, ◌-◌, ◌≤◌, ◌<◌}
use native.Mathlib.Numerals.{add-one}
use native.Mathlib.Decide.{dec_lt}
use native.Mathlib.Omega.{arith}
use borrow.Author.Tests.{eqb-true, leb-true, lt-leb}
use lib.Dec.{eqb, leb}
use lib.ListN.{length, get_or, drop, take, set, length-append, get_or-append, drop_of_length-le, length-replicate, take-append-drop}
use lib.Seq.{get_or-append-add, drop-cons, set_at, take_at, take-suc, get_or_at}
use Rattle.image.specs.Words.{Bytes}
use Rattle.image.specs.Blocks.{block}
use Rattle.image.specs.Bits.{bit_at}
use Rattle.image.specs.Stores.{zeros}
use Rattle.image.proofs.BlockLaws.{block-length, block-bytes}
use Rattle.header.specs.Fields.{h_fseq, map_area, segment, m_efnu, m_efsq, m_use}
use Rattle.pointers.specs.Pointers.{pointer_count, runs, pointers_at, pointers, Fits, blocks_of, place_in}
use Rattle.whole.specs.Whole.{fault}
use Rattle.pointers.proofs.PointerLaws.{place_at, place-past, runs_none, runs-length}
use Rattle.whole.proofs.WholeLaws.{whole-fits, whole-inside}
use Rattle.home.specs.Home.{blocks}
use Rattle.volume.specs.Volume.{ibsz, iblb, fmax, index_map, in_use, index_header, part_slot, part_slots, follows, leads_on, places_from, places, index, index_ends, padded}
use Rattle.pointers.specs.Pointers.{flat}

-- A place in two lists of LBNs, one after the other, by where it lies in the first.
module _ (a b : List ℕ) (i : ℕ) where
  abbrev pub Found : Result Lbn ℕ → Type 0
  Found (Ok l) = (i < length a) × (l.0 ≡ get_or a i 0) × (place_in (a ++ b) i ≡ Ok l)
  Found (Err k) = (length a ≤ i) × (place_in (a ++ b) i ≡ place_in b k)

  pub found : (p : Result Lbn ℕ) → place_in a i ≡ p → Found p
  found p e = subst Found e (go (dec_lt i (length a)))
    where
      go : Dec (i < length a) → Found (place_in a i)
      go (yes l) =
          rw (place_at a i l)
          (l, refl, place_at (a ++ b) i (omega (arith, length-append a b)) ∙ ap (λ (x : ℕ). Ok (record { 0 = x })) (get_or-append a b 0 i l))
      go (no l) = rw (place-past a i (omega arith)) (omega arith, later (dec_lt (i - length a) (length b)))
        where
          whole : length a + (i - length a) ≡ i
          whole = omega arith

          later : Dec (i - length a < length b) → place_in (a ++ b) i ≡ place_in b (i - length a)
          later (yes s) =
              place_at (a ++ b) i (omega (arith, length-append a b))
              ∙ ap (λ (x : ℕ). Ok (record { 0 = x })) (ap (λ (k : ℕ). get_or (a ++ b) k 0) (sym whole) ∙ get_or-append-add a b (i - length a) 0)
              ∙ sym (place_at b (i - length a) s)
          later (no s) =
              place-past (a ++ b) i (omega (arith, length-append a b))
              ∙ ap Err (omega (arith, length-append a b))
              ∙ sym (place-past b (i - length a) (omega arith))

-- How many blocks a header can cover.
runs-most : (h : List ℕ) (at p : ℕ) → Bytes h → length (runs h at p) ≤ 256 * p
unfolding pointer_count
runs-most h at zero bytes = omega (arith, ap length (runs_none h at))
runs-most h at (suc p) bytes = rw (← add-one p) (omega (arith, runs-most h at p bytes, runs-length h at p, bytes.each (at + 4 * p + 1)))

pub blocks_of-most : (h : List ℕ) → Bytes h → length (blocks_of h) ≤ 32512
unfolding blocks_of pointers m_use
blocks_of-most h bytes = omega (arith, runs-most h (pointers_at h) (pointers h) bytes, bytes.each (map_area h + 8))

module _ (image : List ℕ) where
  -- The blocks that headers map, one header after the other.
  pub mapped-none : flat (block image) [] ≡ []
  unfolding flat
  mapped-none = refl

  pub mapped-more : (at : ℕ) (on : List ℕ) → flat (block image) (at ∷ on) ≡ blocks_of (block image at) ++ flat (block image) on
  unfolding flat
  mapped-more at on = refl

  pub mapped-append : (a b : List ℕ) → flat (block image) (a ++ b) ≡ flat (block image) a ++ flat (block image) b
  unfolding flat
  mapped-append [] b = refl
  mapped-append (at ∷ a) b =
      ap (λ (l : List ℕ). blocks_of (block image at) ++ l) (mapped-append a b) ∙ sym (append_assoc (blocks_of (block image at)) (flat (block image) a) (flat (block image) b))

  pub mapped-last : (a : List ℕ) (at : ℕ) → flat (block image) (a ++ (at ∷ [])) ≡ flat (block image) a ++ blocks_of (block image at)
  mapped-last a at =
      mapped-append a (at ∷ []) ∙ ap (λ (l : List ℕ). flat (block image) a ++ l) (mapped-more at [] ∙ rw mapped-none (append-nil (blocks_of (block image at))))

  pub mapped-drop : (l : List ℕ) (j : ℕ) → j < length l → flat (block image) (drop j l) ≡ blocks_of (block image (get_or l j 0)) ++ flat (block image) (drop (j + 1) l)
  mapped-drop l j h = rw (add-one j) (ap (flat (block image)) (drop-cons l j 0 h) ∙ mapped-more (get_or l j 0) (drop (suc j) l))

  pub mapped-past : (l : List ℕ) (j : ℕ) → length l ≤ j → flat (block image) (drop j l) ≡ []
  mapped-past l j h = rw (drop_of_length-le l {i = j} h) mapped-none

  pub mapped-most : Bytes image → (l : List ℕ) → length (flat (block image) l) ≤ 32512 * length l
  unfolding flat
  mapped-most bytes [] = omega arith
  mapped-most bytes (at ∷ l) =
      omega (arith, length-append (blocks_of (block image at)) (flat (block image) l), mapped-most bytes l, blocks_of-most (block image at) (block-bytes image at bytes))

  -- One header more, whatever follows it.
  pub from_first : (f : ℕ) (part : List ℕ) (at : ℕ) → places_from image (f + 1) part at
      ≡ at ∷ cond (leads_on image (part ++ blocks_of (block image at)) (block image at))
      (places_from image f (part ++ blocks_of (block image at)) (part_slot (ibsz image) (part ++ blocks_of (block image at)) (m_efnu (block image at)))) []
  unfolding places_from
  from_first f part at = rw (add-one f)

  pub from_end : (f : ℕ) (part : List ℕ) (at : ℕ) → leads_on image (part ++ blocks_of (block image at)) (block image at) ≡ false → places_from image (f + 1) part at ≡ at ∷ []
  from_end f part at e = from_first f part at ∙ rw e

  pub from_more : (f : ℕ) (part : List ℕ) (at : ℕ) → leads_on image (part ++ blocks_of (block image at)) (block image at) ≡ true
      → places_from image (f + 1) part at
      ≡ at ∷ places_from image f (part ++ blocks_of (block image at)) (part_slot (ibsz image) (part ++ blocks_of (block image at)) (m_efnu (block image at)))
  from_more f part at e = from_first f part at ∙ rw e

  pub from-none : (part : List ℕ) (at : ℕ) → places_from image 0 part at ≡ []
  unfolding places_from
  from-none part at = refl

  -- The last of 256.
  pub from_last : (part : List ℕ) (at : ℕ) → places_from image 1 part at ≡ at ∷ []
  from_last part at = from_first 0 part at ∙ ap (λ (l : List ℕ). at ∷ l) (go (leads_on image (part ++ blocks_of (block image at)) (block image at)))
    where
      go : (t : Bool) → cond t (places_from image 0 (part ++ blocks_of (block image at)) (part_slot (ibsz image) (part ++ blocks_of (block image at)) (m_efnu (block image at)))) [] ≡ []
      go true = from-none (part ++ blocks_of (block image at)) (part_slot (ibsz image) (part ++ blocks_of (block image at)) (m_efnu (block image at)))
      go false = refl

  pub from-most : (f : ℕ) (part : List ℕ) (at : ℕ) → length (places_from image f part at) ≤ f
  unfolding places_from
  from-most zero part at = omega arith
  from-most (suc f) part at =
      go (leads_on image (part ++ blocks_of (block image at)) (block image at))
      (from-most f (part ++ blocks_of (block image at)) (part_slot (ibsz image) (part ++ blocks_of (block image at)) (m_efnu (block image at))))
    where
      go : (t : Bool) → length (places_from image f (part ++ blocks_of (block image at)) (part_slot (ibsz image) (part ++ blocks_of (block image at)) (m_efnu (block image at)))) ≤ f
          → suc (length (cond t (places_from image f (part ++ blocks_of (block image at)) (part_slot (ibsz image) (part ++ blocks_of (block image at)) (m_efnu (block image at)))) [])) ≤ suc f
      go true h = omega arith
      go false h = omega arith

  pub places-most : length (places image) ≤ 256
  unfolding places
  places-most = from-most 256 [] (iblb image + ibsz image)

  pub index-most : Bytes image → length (index image) ≤ 8323072
  unfolding index
  index-most bytes = omega (arith, mapped-most bytes (places image), places-most)

  -- What leading on says.
  pub record Leads (part h : List ℕ) : Type 0 where
    pub used : in_use image (m_efnu h) ≡ true
    pub has : m_efnu h ≤ part_slots (ibsz image) part
    pub whole : fault (blocks image) (m_efnu h) (block image (part_slot (ibsz image) part (m_efnu h))) ≡ 0
    pub sequence : h_fseq (block image (part_slot (ibsz image) part (m_efnu h))) ≡ m_efsq h
    pub next : segment (block image (part_slot (ibsz image) part (m_efnu h))) ≡ segment h + 1

  pub leads : (part h : List ℕ) → leads_on image part h ≡ true → Leads part h
  unfolding leads_on follows
  leads part h t =
      let n = m_efnu h in
      let k = block image (part_slot (ibsz image) part n) in
      let a = eqb (fault (blocks image) n k) 0 in
      let b = eqb (h_fseq k) (m_efsq h) in
      let c = eqb (segment k) (segment h + 1) in
      let f = (and-eq-true_iff (in_use image n && leb n (part_slots (ibsz image) part)) (a && b && c)).0 t in
      let u = (and-eq-true_iff (in_use image n) (leb n (part_slots (ibsz image) part))).0 f.0 in
      let l = (and-eq-true_iff (a && b) c).0 f.1 in
      let r = (and-eq-true_iff a b).0 l.0 in
      record {
        used = u.0;
        has = leb-true n (part_slots (ibsz image) part) u.1;
        whole = eqb-true (fault (blocks image) n k) 0 r.0;
        sequence = eqb-true (h_fseq k) (m_efsq h) r.1;
        next = eqb-true (segment k) (segment h + 1) l.1;
      }

  pub used_low : (n : ℕ) → in_use image n ≡ true → 1 ≤ n
  unfolding in_use
  used_low n u =
      leb-true 1 n
      ((and-eq-true_iff (leb 1 n) (leb n (fmax image))).0 ((and-eq-true_iff (leb 1 n && leb n (fmax image)) (eqb (bit_at (index_map image) (n - 1)) 1)).0 u).0).0

  -- Nothing leads on by M.EFNU 0.
  pub leads-none : (part h : List ℕ) → m_efnu h ≡ 0 → leads_on image part h ≡ false
  unfolding leads_on in_use
  leads-none part h e = rw (lt-leb 1 (m_efnu h) (omega arith))

  pub leads-unused : (part h : List ℕ) → in_use image (m_efnu h) ≡ false → leads_on image part h ≡ false
  unfolding leads_on
  leads-unused part h e = rw e

  -- A header of the index file: whole, and on the volume.
  pub record Lies (at : ℕ) : Type 0 where
    pub number : ℕ
    pub whole : fault (blocks image) number (block image at) ≡ 0
    pub low : at < blocks image

  pub lies-fits : length image ≡ 512 * blocks image → (at : ℕ) → Lies at → Fits (block image at)
  lies-fits size at l = whole-fits (blocks image) l.number (block image at) (block-length image at (omega (arith, size, l.low))) l.whole

  abbrev pub AllLie : List ℕ → Type 0
  AllLie ls = (j : ℕ) → j < length ls → Lies (get_or ls j 0)

  abbrev pub Inside : List ℕ → Type 0
  Inside lbns = (i : ℕ) → i < length lbns → get_or lbns i 0 < blocks image

  pub lie-none : AllLie []
  lie-none j l = absurd (omega arith)

  pub lie-more : (at : ℕ) (ls : List ℕ) → Lies at → AllLie ls → AllLie (at ∷ ls)
  lie-more at ls here on zero l = here
  lie-more at ls here on (suc j) l = on j (omega arith)

  pub lie-last : (ls : List ℕ) (at : ℕ) → AllLie ls → Lies at → AllLie (ls ++ (at ∷ []))
  lie-last ls at on here j l = go (dec_lt j (length ls))
    where
      go : Dec (j < length ls) → Lies (get_or (ls ++ (at ∷ [])) j 0)
      go (yes s) = rw (get_or-append ls (at ∷ []) 0 j s) (on j s)
      go (no s) =
          let e : j ≡ length ls = omega (arith, length-append ls (at ∷ [])) in
          rw (get_or_at ls at [] 0 j (sym e)) here

  pub inside-append : (a b : List ℕ) → Inside a → Inside b → Inside (a ++ b)
  inside-append a b x y i l = go (dec_lt i (length a))
    where
      go : Dec (i < length a) → get_or (a ++ b) i 0 < blocks image
      go (yes s) = rw (get_or-append a b 0 i s) (x i s)
      go (no s) =
          let e : i ≡ length a + (i - length a) = omega arith in
          rw (e, get_or-append-add a b (i - length a) 0) (y (i - length a) (omega (arith, length-append a b)))

  pub lies-inside : (at : ℕ) → Lies at → Inside (blocks_of (block image at))
  lies-inside at l = whole-inside (blocks image) l.number (block image at) l.whole

  pub mapped-inside : (ls : List ℕ) → AllLie ls → Inside (flat (block image) ls)
  unfolding flat
  mapped-inside [] all i l = absurd (omega arith)
  mapped-inside (at ∷ ls) all i l =
      inside-append (blocks_of (block image at)) (flat (block image) ls) (lies-inside at (all 0 (omega arith))) (mapped-inside ls (λ j h. all (suc j) (omega arith))) i l

  -- What is led to lies in the part.
  pub leads-lies : (part h : List ℕ) → Inside part → leads_on image part h ≡ true → Lies (part_slot (ibsz image) part (m_efnu h))
  leads-lies part h inside t =
      let l = leads part h t in
      record {
        number = m_efnu h;
        whole = l.whole;
        low = inside (1 + ibsz image + m_efnu h) (omega (arith, l.has, used_low (m_efnu h) l.used));
      }

  -- One more of the headers, whether it leads on or not.
  lie-on : (f : ℕ) (part : List ℕ) (at : ℕ) → Inside part → Lies at
      → ((more : List ℕ) (next : ℕ) → Inside more → Lies next → AllLie (places_from image f more next)) → AllLie (places_from image (f + 1) part at)
  lie-on f part at inside here on = rw (from_first f part at) (go (leads_on image more h) refl)
    where
      h : List ℕ
      h = block image at

      more : List ℕ
      more = part ++ blocks_of h

      within : Inside more
      within = inside-append part (blocks_of h) inside (lies-inside at here)

      go : (t : Bool) → leads_on image more h ≡ t → AllLie (at ∷ cond t (places_from image f more (part_slot (ibsz image) more (m_efnu h))) [])
      go true e = lie-more at (places_from image f more (part_slot (ibsz image) more (m_efnu h))) here (on more (part_slot (ibsz image) more (m_efnu h)) within (leads-lies more h within e))
      go false e = lie-more at [] here lie-none

  pub from-lie : (f : ℕ) (part : List ℕ) (at : ℕ) → Inside part → Lies at → AllLie (places_from image f part at)
  from-lie zero part at inside here = rw (from-none part at) lie-none
  from-lie (suc f) part at inside here = rw (← add-one f) (lie-on f part at inside here (from-lie f))

  pub places-lie : Lies (iblb image + ibsz image) → AllLie (places image)
  unfolding places
  places-lie here = from-lie 256 [] (iblb image + ibsz image) (λ i l. absurd (omega arith)) here

  -- Header 1 is the first.
  pub places-least : 1 ≤ length (places image)
  unfolding places
  places-least = omega (arith, ap length (from_first 255 [] (iblb image + ibsz image)))

  pub places-start : get_or (places image) 0 0 ≡ iblb image + ibsz image
  unfolding places
  places-start = ap (λ (l : List ℕ). get_or l 0 0) (from_first 255 [] (iblb image + ibsz image))

  -- The first segment's blocks come first.
  abbrev pub further : List ℕ
  further =
      flat (block image) (cond (leads_on image ([] ++ blocks_of (index_header image)) (index_header image))
      (places_from image 255 ([] ++ blocks_of (index_header image)) (part_slot (ibsz image) ([] ++ blocks_of (index_header image)) (m_efnu (index_header image)))) [])

  pub index-split : index image ≡ blocks_of (index_header image) ++ further
  unfolding index places index_header
  index-split = ap (flat (block image)) (from_first 255 [] (iblb image + ibsz image)) ∙ mapped-more (iblb image + ibsz image) _

  -- One header has all the blocks.
  pub index-alone : length (places image) ≡ 1 → index image ≡ blocks_of (index_header image)
  unfolding index places index_header
  index-alone e =
      ap (flat (block image)) (from_first 255 [] (iblb image + ibsz image))
      ∙ only (iblb image + ibsz image) _ (sym (ap length (from_first 255 [] (iblb image + ibsz image))) ∙ e)
    where
      only : (at : ℕ) (rest : List ℕ) → suc (length rest) ≡ 1 → flat (block image) (at ∷ rest) ≡ blocks_of (block image at)
      only at [] f = mapped-more at [] ∙ rw mapped-none (append-nil (blocks_of (block image at)))
      only at (x ∷ rest) f = absurd (omega arith)

  -- No link is bad where the last header has none.
  pub ends_last : (ls : List ℕ) (at : ℕ) → places image ≡ ls ++ (at ∷ []) → index_ends image ≡ eqb (m_efnu (block image at)) 0
  unfolding index_ends
  ends_last ls at e = rw e (ap (λ (l : ℕ). eqb (m_efnu (block image l)) 0) (get_or_at ls at [] 0 (length (ls ++ (at ∷ [])) - 1) (omega (arith, length-append ls (at ∷ [])))))

-- The headers looked through so far, and the one at hand.
module _ (image ls : List ℕ) (k : ℕ) (inside : k < length ls) where
  pub mapped-step : flat (block image) (take (k + 1) ls) ≡ flat (block image) (take k ls) ++ blocks_of (block image (get_or ls k 0))
  mapped-step = rw (add-one k, take-suc ls k 0 inside) (mapped-last image (take k ls) (get_or ls k 0))

  pub mapped-here : flat (block image) ls ≡ flat (block image) (take k ls) ++ (blocks_of (block image (get_or ls k 0)) ++ flat (block image) (drop (k + 1) ls))
  mapped-here =
      ap (flat (block image)) (sym (take-append-drop k ls))
      ∙ mapped-append image (take k ls) (drop k ls)
      ∙ ap (λ (l : List ℕ). flat (block image) (take k ls) ++ l) (mapped-drop image ls k inside)

-- The places as the volume record keeps them.
module _ (ls : List ℕ) where
  pub padded-take : (k : ℕ) → length ls ≡ k → take k (padded ls) ≡ ls
  unfolding padded
  padded-take k e = take_at ls (zeros (256 - length ls)) k e

  pub padded-length : length ls ≤ 256 → length (padded ls) ≡ 256
  unfolding padded zeros
  padded-length h = omega (arith, length-append ls (zeros (256 - length ls)), length-replicate {A = ℕ} (256 - length ls) 0)

  -- One more.
  pub padded-more : (k at : ℕ) → length ls ≡ k → k ≤ 255 → set (padded ls) k at ≡ padded (ls ++ (at ∷ []))
  unfolding padded zeros
  padded-more k at e h =
      let f : 256 - length ls ≡ suc (255 - length ls) = omega arith in
      let g : 256 - length (ls ++ (at ∷ [])) ≡ 255 - length ls = omega (arith, length-append ls (at ∷ [])) in
      rw (f, g) (set_at ls 0 (zeros (255 - length ls)) at k e ∙ sym (append_assoc ls (at ∷ []) (zeros (255 - length ls))))
