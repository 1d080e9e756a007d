-- Laws of the slots of a list of numbers, and of a walk over a chain that keeps the members seen so far.
use mathlib.Core.Path.{◌≡◌, refl, sym, ap, ap₂, ◌∙◌}
use mathlib.Core.Bool.{true, and-eq-true_iff}
use mathlib.Core.List.{List, [], ◌∷◌, ◌++◌, append_assoc}
use Prim.Native.Nat.{ℕ, zero, suc, ◌+◌, ◌-◌, ◌≤◌, ◌<◌}
use native.Mathlib.Numerals.{add-one}
use native.Mathlib.Omega.{arith}
use lib.ListN.{length, get_or, take, set, length-set}
use lib.Seq.{get_or-take, take-suc-set, length-take-le}
use Rattle.image.specs.Words.{Bytes}
use Rattle.image.specs.Blocks.{block}
use Rattle.header.specs.Fields.{segment, m_efnu}
use Rattle.volume.specs.Volume.{slot, header, is_number}
use Rattle.chains.specs.Chains.{chain, chain_of, good_link_of, good_chain, IsFirst, last_number, slots_of}
use Rattle.lists.specs.Lists.{every, last_of}
use Rattle.chains.proofs.NumberLaws.{segment-most}
use Rattle.chains.proofs.LinkLaws.{Linked, good-links}
use Rattle.chains.proofs.ChainLaws.{chain-end, chain_more, every_more}
use Rattle.chains.specs.declared.Members.{Members}
use Rattle.chains.specs.Members.{Lists}

module _ (image : List ℕ) where
  pub slots_of-length : (ns : List ℕ) → length (slots_of image ns) ≡ length ns
  unfolding slots_of
  slots_of-length [] = refl
  slots_of-length (n ∷ ns) = ap suc (slots_of-length ns)

  pub slots_of-append : (ns ms : List ℕ) → slots_of image (ns ++ ms) ≡ slots_of image ns ++ slots_of image ms
  unfolding slots_of
  slots_of-append [] ms = refl
  slots_of-append (n ∷ ns) ms = ap (λ (l : List ℕ). slot image n ∷ l) (slots_of-append ns ms)

  pub slots_of-one : (n : ℕ) → slots_of image (n ∷ []) ≡ slot image n ∷ []
  unfolding slots_of
  slots_of-one n = refl

  pub slots_of-get_d : (ns : List ℕ) (i : ℕ) → i < length ns → get_or (slots_of image ns) i 0 ≡ slot image (get_or ns i 0)
  unfolding slots_of
  slots_of-get_d [] i l = absurd (omega arith)
  slots_of-get_d (n ∷ ns) zero l = refl
  slots_of-get_d (n ∷ ns) (suc i) l = slots_of-get_d ns i (omega arith)

-- The last of a list, by its place.
last-place : (n x : ℕ) (xs : List ℕ) → last_of n (x ∷ xs) ≡ get_or (x ∷ xs) (length xs) 0
unfolding last_of
last-place n x [] = refl
last-place n x (y ∷ ys) = last-place x y ys

pub last_of-get_d : (n : ℕ) (ns : List ℕ) → 1 ≤ length ns → last_of n ns ≡ get_or ns (length ns - 1) 0
last_of-get_d n [] l = absurd (omega arith)
last_of-get_d n (x ∷ xs) l =
    let e : length xs ≡ suc (length xs) - 1 = omega arith in
    last-place n x xs ∙ ap (λ (k : ℕ). get_or (x ∷ xs) k 0) e

-- A walk over the chain of the file whose first header has number n has come to the header of `number`, whose slot is at an LBN; the members before it
-- stand in two lists. Its segment number is how many they are, for each has a segment number one higher than that before.
pub record Gathers (image : List ℕ) (n : ℕ) (numbers slots : List ℕ) (number at count : ℕ) : Type 0 where
  pub used : is_number image number ≡ true
  pub lies : at ≡ slot image number
  pub place : segment (header image number) ≡ count
  pub room : count ≤ 255
  pub links : every (good_link_of image) (chain (header image) (256 - count) number) ≡ true
  pub rooms : length numbers ≡ 256
  pub spots : length slots ≡ 256
  pub seen : chain_of image n ≡ take count numbers ++ chain (header image) (256 - count) number
  pub kept : take count slots ≡ slots_of image (take count numbers)

pub gathers-start : (image : List ℕ) (n at : ℕ) (numbers slots : List ℕ) → IsFirst image n → good_chain image n ≡ true → at ≡ slot image n
    → length numbers ≡ 256 → length slots ≡ 256 → Gathers image n numbers slots n at 0
unfolding good_chain chain_of slots_of
gathers-start image n at numbers slots first good lies rooms spots = record {
  used = first.0;
  lies = lies;
  place = first.2;
  room = omega arith;
  links = good;
  rooms = rooms;
  spots = spots;
  seen = refl;
  kept = refl;
}

module _ (image : List ℕ) (n : ℕ) (numbers slots : List ℕ) (number at count : ℕ) (g : Gathers image n numbers slots number at count) where
  abbrev h : List ℕ
  h = header image number

  some : 256 - count ≡ 255 - count + 1
  some = omega (arith, g.room)

  left : every (good_link_of image) (chain (header image) (255 - count + 1) number) ≡ true
  left = rw (← some) g.links

  here : chain_of image n ≡ take count numbers ++ chain (header image) (255 - count + 1) number
  here = rw (← some) g.seen

  -- The members with the one at hand.
  more_numbers : take (count + 1) (set numbers count number) ≡ take count numbers ++ (number ∷ [])
  more_numbers = rw (add-one count) (take-suc-set numbers count number (omega (arith, g.rooms, g.room)))

  more-slots : take (count + 1) (set slots count at) ≡ slots_of image (take (count + 1) (set numbers count number))
  more-slots =
      rw (add-one count) (take-suc-set slots count at (omega (arith, g.spots, g.room)))
      ∙ ap₂ (λ (l : List ℕ) (k : ℕ). l ++ (k ∷ [])) g.kept g.lies
      ∙ ap (λ (l : List ℕ). slots_of image (take count numbers) ++ l) (sym (slots_of-one image number))
      ∙ sym (slots_of-append image (take count numbers) (number ∷ []))
      ∙ ap (slots_of image) (sym more_numbers)

  -- The M.EFNU that is read at the LBN is that of the header at hand.
  named : (next : ℕ) → next ≡ m_efnu (block image at) → next ≡ m_efnu h
  unfolding header
  named next e = e ∙ ap (λ (l : ℕ). m_efnu (block image l)) g.lies

  -- Without M.EFNU the header at hand is the last.
  pub gathers-end : (next : ℕ) → next ≡ m_efnu (block image at) → next ≡ 0
      → Lists image n (record { count = count + 1; numbers = set numbers count number; slots = set slots count at })
  gathers-end next e z =
      let all = more_numbers ∙ sym (here ∙ ap (λ (l : List ℕ). take count numbers ++ l) (chain-end (header image) (255 - count) number (sym (named next e) ∙ z))) in
      record {
        least = omega arith;
        most = omega (arith, g.room);
        long =
            ap length (sym all)
            ∙ length-take-le (count + 1) (set numbers count number) (omega (arith, length-set numbers count number, g.rooms, g.room));
        numbers = all;
        slots = more-slots ∙ ap (slots_of image) all;
      }

  module _ (next : ℕ) (e : next ≡ m_efnu (block image at)) (ne : next ≡ 0 → ⊥) where
    some-link : m_efnu h ≡ 0 → ⊥
    some-link z = ne (named next e ∙ z)

    both : (good_link_of image number ≡ true) × (every (good_link_of image) (chain (header image) (255 - count) (m_efnu h)) ≡ true)
    both =
        (and-eq-true_iff (good_link_of image number) (every (good_link_of image) (chain (header image) (255 - count) (m_efnu h)))).0
        (sym (every_more (header image) (good_link_of image) (255 - count) number some-link) ∙ left)

    -- What M.EFNU names.
    pub gathers-linked : Linked image h
    unfolding good_link_of
    gathers-linked = good-links image h some-link both.0

    -- M.EFNU names a number in use with a slot.
    pub gathers-number : is_number image next ≡ true
    gathers-number = rw (named next e) gathers-linked.number

    -- With it the walk comes to the header that it names.
    pub gathers-next : Bytes image → (on : ℕ) → on ≡ slot image next → Gathers image n (set numbers count number) (set slots count at) next on (count + 1)
    gathers-next bytes on lies =
        let f : 255 - count ≡ 256 - (count + 1) = omega arith in
        let q = named next e in
        let place = gathers-linked.next ∙ ap (λ (k : ℕ). k + 1) g.place in
        record {
          used = gathers-number;
          lies = lies;
          place = rw q place;
          room = omega (arith, place, segment-most image (m_efnu h) bytes);
          links = rw (q, ← f) both.1;
          rooms = length-set numbers count number ∙ g.rooms;
          spots = length-set slots count at ∙ g.spots;
          seen =
              rw (q, ← f, more_numbers)
              (here
              ∙ ap (λ (l : List ℕ). take count numbers ++ l) (chain_more (header image) (255 - count) number some-link)
              ∙ sym (append_assoc (take count numbers) (number ∷ []) (chain (header image) (255 - count) (m_efnu h))));
          kept = more-slots;
        }

-- The last slot is that of the last number.
pub lists-last : (image : List ℕ) (n : ℕ) (m : Members) → Lists image n m → get_or m.slots (m.count - 1) 0 ≡ slot image (last_number image n)
unfolding last_number
lists-last image n m l =
    let small : m.count - 1 < m.count = omega (arith, l.least) in
    sym (get_or-take m.count m.slots (m.count - 1) 0 small)
    ∙ ap (λ (ks : List ℕ). get_or ks (m.count - 1) 0) l.slots
    ∙ slots_of-get_d image (chain_of image n) (m.count - 1) (omega (arith, l.long, l.least))
    ∙ ap (slot image) (ap (λ (k : ℕ). get_or (chain_of image n) (k - 1) 0) (sym l.long) ∙ sym (last_of-get_d n (chain_of image n) (omega (arith, l.long, l.least))))
