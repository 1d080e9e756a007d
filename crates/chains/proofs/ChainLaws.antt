-- Laws of chains: where one ends and how it goes on, and a walk over a chain's headers.
use Rattle.std.specs.Prelude.{Some, None, Option, Ok}
use mathlib.Core.Path.{◌≡◌, refl, sym, ap, subst, ◌∙◌}
use mathlib.Core.Bool.{Bool, true, false, cond, ◌&&◌, and-eq-true_iff}
use mathlib.Core.List.{List, [], ◌∷◌, ◌++◌, append-nil, append_assoc}
use Prim.Native.Nat.{ℕ, ◌+◌, ◌-◌, ◌≤◌, ◌<◌}
use native.Mathlib.Numerals.{add-one}
use native.Mathlib.Omega.{arith}
use borrow.Author.Tests.{eq-eqb, ne_eqb}
use lib.Dec.{eqb}
use lib.ListN.{length, get_or, take, length-append, get_or-append}
use lib.Seq.{get_or-append-add, take-append_seam, take-append-add}
use Rattle.header.specs.Fields.{segment, m_efnu}
use Rattle.pointers.specs.Pointers.{Fits, blocks_of}
use Rattle.image.specs.Blocks.{block}
use Rattle.volume.specs.Volume.{slot, header, fault_of, is_number}
use Rattle.volume.specs.Opening.{open_volume}
use Rattle.chains.specs.Chains.{good_link, NextHeader, chain, chain_of, good_link_of, good_chain, IsFirst, file_blocks, chain_blocks}
use Rattle.pointers.specs.Pointers.{flat}
use Rattle.lists.specs.Lists.{every}
use Rattle.chains.proofs.NumberLaws.{number_fits}
use Rattle.chains.proofs.LinkLaws.{link-end, good-links}

module _ (hdr : ℕ → List ℕ) where
  -- The chain ends at a header without M.EFNU, and goes on with the number that M.EFNU names.
  pub chain-end : (f n : ℕ) → m_efnu (hdr n) ≡ 0 → chain hdr (f + 1) n ≡ n ∷ []
  unfolding chain
  chain-end f n e = rw (add-one f, eq-eqb (m_efnu (hdr n)) 0 e)

  pub chain_more : (f n : ℕ) → (m_efnu (hdr n) ≡ 0 → ⊥) → chain hdr (f + 1) n ≡ n ∷ chain hdr f (m_efnu (hdr n))
  unfolding chain
  chain_more f n ne = rw (add-one f, ne_eqb (m_efnu (hdr n)) 0 ne)

  -- The same of the blocks of the chain's headers, and of a test that each of its numbers passes.
  pub flat-end : (f n : ℕ) → m_efnu (hdr n) ≡ 0 → flat hdr (chain hdr (f + 1) n) ≡ blocks_of (hdr n)
  unfolding flat
  flat-end f n e = rw (chain-end f n e) (append-nil (blocks_of (hdr n)))

  pub flat-more : (f n : ℕ) → (m_efnu (hdr n) ≡ 0 → ⊥) → flat hdr (chain hdr (f + 1) n) ≡ blocks_of (hdr n) ++ flat hdr (chain hdr f (m_efnu (hdr n)))
  unfolding flat
  flat-more f n ne = rw (chain_more f n ne)

  -- However the chain goes on, its first header's blocks come first.
  pub flat-first : (f n : ℕ) → flat hdr (chain hdr (f + 1) n) ≡ blocks_of (hdr n) ++ flat hdr (cond (eqb (m_efnu (hdr n)) 0) [] (chain hdr f (m_efnu (hdr n))))
  unfolding chain flat
  flat-first f n = rw (add-one f)

  pub every-end : (p : ℕ → Bool) (f n : ℕ) → m_efnu (hdr n) ≡ 0 → every p (chain hdr (f + 1) n) ≡ (p n && true)
  unfolding every
  every-end p f n e = rw (chain-end f n e)

  pub every_more : (p : ℕ → Bool) (f n : ℕ) → (m_efnu (hdr n) ≡ 0 → ⊥) → every p (chain hdr (f + 1) n) ≡ (p n && every p (chain hdr f (m_efnu (hdr n))))
  unfolding every
  every_more p f n ne = rw (chain_more f n ne)

  -- The chain's first number is one of its numbers.
  pub every_first : (p : ℕ → Bool) (f n : ℕ) → every p (chain hdr (f + 1) n) ≡ true → p n ≡ true
  unfolding chain every
  every_first p f n h = ((and-eq-true_iff (p n) (every p (cond (eqb (m_efnu (hdr n)) 0) [] (chain hdr f (m_efnu (hdr n)))))).0 (rw (add-one f) at h)).0

  pub every-not : (p : ℕ → Bool) (f n : ℕ) → p n ≡ false → every p (chain hdr (f + 1) n) ≡ false
  unfolding chain every
  every-not p f n h = rw (add-one f, h)

-- A walk over the chain of the file whose first header has number n has come to header h; the headers before it have d blocks. What is left of
-- the chain has at most 256 - segment h headers, for each has a segment number one higher.
pub record Walk (image : List ℕ) (n : ℕ) (h : List ℕ) (d : ℕ) : Type 0 where
  pub number : ℕ
  pub is : header image number ≡ h
  pub used : is_number image number ≡ true
  pub whole : fault_of image number ≡ 0
  pub low : segment h ≤ 255
  pub links : good_chain image n ≡ every (good_link_of image) (chain (header image) (256 - segment h) number)
  pub past : List ℕ
  pub count : length past ≡ d
  pub blocks : file_blocks image n ≡ past ++ flat (header image) (chain (header image) (256 - segment h) number)

pub walk_start : (image : List ℕ) (n : ℕ) → IsFirst image n → Walk image n (header image n) 0
unfolding good_chain file_blocks chain_of
walk_start image n first = record {
  number = n;
  is = refl;
  used = first.0;
  whole = first.1;
  low = omega arith;
  links = rw first.2;
  past = [];
  count = refl;
  blocks = rw first.2;
}

-- A walk begins at the first header, which lies in its slot.
pub walk_begins : (image : List ℕ) (n lbn : ℕ) → IsFirst image n → lbn ≡ slot image n → Walk image n (block image lbn) 0
unfolding header
walk_begins image n lbn first lies = rw lies (walk_start image n first)

-- The same walk, its number of blocks written otherwise.
pub walk_same : (image : List ℕ) (n : ℕ) (h : List ℕ) (d e : ℕ) → Walk image n h d → d ≡ e → Walk image n h e
walk_same image n h d e w q = subst (Walk image n h) q w

module _ (image : List ℕ) (n : ℕ) (h : List ℕ) (d : ℕ) (w : Walk image n h d) where
  -- What is left of the chain has the header at hand, so at least one.
  some : 256 - segment h ≡ 255 - segment h + 1
  some = omega (arith, w.low)

  left-links : good_chain image n ≡ every (good_link_of image) (chain (header image) (255 - segment h + 1) w.number)
  left-links = w.links ∙ ap (λ (f : ℕ). every (good_link_of image) (chain (header image) f w.number)) some

  left-blocks : file_blocks image n ≡ w.past ++ flat (header image) (chain (header image) (255 - segment h + 1) w.number)
  left-blocks = w.blocks ∙ ap (λ (f : ℕ). w.past ++ flat (header image) (chain (header image) f w.number)) some

  link_here : good_link_of image w.number ≡ good_link image h
  unfolding good_link_of
  link_here = ap (good_link image) w.is

  -- The blocks of the header at hand are the file's, from block d on.
  abbrev after : List ℕ
  after = flat (header image) (cond (eqb (m_efnu (header image w.number)) 0) [] (chain (header image) (255 - segment h) (m_efnu (header image w.number))))

  walk_split : file_blocks image n ≡ w.past ++ (blocks_of h ++ after)
  walk_split =
      left-blocks
      ∙ ap (λ (l : List ℕ). w.past ++ l) (flat-first (header image) (255 - segment h) w.number ∙ ap (λ (k : List ℕ). blocks_of k ++ after) w.is)

  pub walk_inside : d + length (blocks_of h) ≤ length (file_blocks image n)
  walk_inside = rw walk_split (omega (arith, length-append w.past (blocks_of h ++ after), length-append (blocks_of h) after, w.count))

  pub walk_here : (i : ℕ) → i < length (blocks_of h) → get_or (file_blocks image n) (d + i) 0 ≡ get_or (blocks_of h) i 0
  walk_here i l =
      rw (walk_split, ← w.count) (get_or-append-add w.past (blocks_of h ++ after) i 0 ∙ get_or-append (blocks_of h) after 0 i l)

  -- The file's blocks up to the end of the header at hand.
  pub walk-take : take (d + length (blocks_of h)) (file_blocks image n) ≡ take d (file_blocks image n) ++ blocks_of h
  walk-take =
      rw (walk_split, ← w.count)
      (take-append-add w.past (blocks_of h ++ after) (length (blocks_of h))
      ∙ rw (take-append_seam (blocks_of h) after, take-append_seam w.past (blocks_of h ++ after)))

  -- The header at hand has its pointers in it.
  pub walk-fits : open_volume image ≡ Ok tt → Fits h
  unfolding header
  walk-fits o = rw w.is at (number_fits image w.number w.used o w.whole)

  -- A bad link breaks the chain, and in a good chain the link is good.
  pub walk-bad : good_link image h ≡ false → good_chain image n ≡ false
  walk-bad b = left-links ∙ every-not (header image) (good_link_of image) (255 - segment h) w.number (link_here ∙ b)

  pub walk-good : good_chain image n ≡ true → good_link image h ≡ true
  walk-good g = sym link_here ∙ every_first (header image) (good_link_of image) (255 - segment h) w.number (sym left-links ∙ g)

  module _ (e : m_efnu h ≡ 0) where
    no-link : m_efnu (header image w.number) ≡ 0
    no-link = ap m_efnu w.is ∙ e

    -- Without M.EFNU the header is the last.
    pub walk_end : file_blocks image n ≡ w.past ++ blocks_of h
    walk_end = left-blocks ∙ ap (λ (l : List ℕ). w.past ++ l) (flat-end (header image) (255 - segment h) w.number no-link ∙ ap blocks_of w.is)

    pub walk-end-good : good_chain image n ≡ true
    walk-end-good =
        left-links ∙ every-end (header image) (good_link_of image) (255 - segment h) w.number no-link
        ∙ ap (λ (t : Bool). t && true) (link_here ∙ link-end image h e)

    pub walk-end-length : length (file_blocks image n) ≡ d + length (blocks_of h)
    walk-end-length = ap length walk_end ∙ length-append w.past (blocks_of h) ∙ ap (λ (k : ℕ). k + length (blocks_of h)) w.count

  -- While the file has blocks past those of the header, there is one more.
  pub walk_more : d + length (blocks_of h) < length (file_blocks image n) → m_efnu h ≡ 0 → ⊥
  walk_more l e = omega (arith, walk-end-length e)

  -- With a good one the walk comes to the header that it names.
  pub walk-next : (next : List ℕ) → NextHeader image h next → Walk image n next (d + length (blocks_of h))
  walk-next next r =
      let l = good-links image h r.some r.good in
      let ne' : m_efnu (header image w.number) ≡ 0 → ⊥ = λ z. r.some (sym (ap m_efnu w.is) ∙ z) in
      let f : 255 - segment h ≡ 256 - segment next = omega (arith, r.higher) in
      record {
        number = m_efnu h;
        is = sym r.is;
        used = l.number;
        whole = l.whole;
        low = r.low;
        links =
            left-links ∙ every_more (header image) (good_link_of image) (255 - segment h) w.number ne'
            ∙ rw (link_here, r.good, w.is, f);
        past = w.past ++ blocks_of h;
        count = length-append w.past (blocks_of h) ∙ ap (λ (k : ℕ). k + length (blocks_of h)) w.count;
        blocks =
            left-blocks
            ∙ ap (λ (r : List ℕ). w.past ++ r) (flat-more (header image) (255 - segment h) w.number ne' ∙ rw (w.is, f))
            ∙ sym (append_assoc w.past (blocks_of h) (flat (header image) (chain (header image) (256 - segment next) (m_efnu h))));
      }

-- What the walk over a whole chain comes to.
module _ (image : List ℕ) (n : ℕ) where
  pub blocks-good : (count : ℕ) → good_chain image n ≡ true → length (file_blocks image n) ≡ count → chain_blocks image n ≡ Some count
  unfolding chain_blocks
  blocks-good count g e = rw (g, e)

  pub blocks-bad : good_chain image n ≡ false → chain_blocks image n ≡ None
  unfolding chain_blocks
  blocks-bad g = rw g

-- A walk that came to a header without M.EFNU has counted the file's blocks, and one that came to a bad link has none to tell.
pub walk_counts : (image : List ℕ) (n : ℕ) (h : List ℕ) (d count : ℕ) → Walk image n h d → m_efnu h ≡ 0 → count ≡ d + length (blocks_of h) → Some count ≡ chain_blocks image n
walk_counts image n h d count w e q = sym (blocks-good image n count (walk-end-good image n h d w e) (walk-end-length image n h d w e ∙ sym q))

pub walk_breaks : (image : List ℕ) (n : ℕ) (h : List ℕ) (d : ℕ) → Walk image n h d → good_link image h ≡ false → None ≡ chain_blocks image n
walk_breaks image n h d w b = sym (blocks-bad image n (walk-bad image n h d w b))

-- What is known of a file by what the walk over its chain came to.
abbrev pub Counted : List ℕ → ℕ → Option ℕ → Type 0
Counted image n (Some count) = (good_chain image n ≡ true) × (count ≡ length (file_blocks image n))
Counted image n None = good_chain image n ≡ false

pub counted : (image : List ℕ) (n : ℕ) (c : Option ℕ) → chain_blocks image n ≡ c → Counted image n c
counted image n c e = subst (Counted image n) e (go (good_chain image n) refl)
  where
    go : (t : Bool) → good_chain image n ≡ t → Counted image n (chain_blocks image n)
    go true g = rw (blocks-good image n (length (file_blocks image n)) g refl) (g, refl)
    go false g = rw (blocks-bad image n g) g
