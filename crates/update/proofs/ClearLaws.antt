-- Laws of slots that are cleared one after the other. A map that lies apart from them may be written before or after, for writes at places apart
-- commute.
use mathlib.Core.Path.{◌≡◌, refl, sym, ap, ◌∙◌}
use mathlib.Core.Logic.{◌⊎◌, inl, inr}
use mathlib.Core.List.{List, [], ◌∷◌}
use Prim.Native.Nat.{ℕ, ◌+◌, ◌*◌, ◌-◌, ◌≤◌, ◌<◌}
use native.Mathlib.Decide.{ℕ_discrete, dec_lt}
use native.Mathlib.Omega.{arith}
use lib.ListN.{length}
use lib.Seq.{ext_get_or}
use Rattle.image.specs.Words.{byte_at, Bytes}
use Rattle.image.specs.Blocks.{region, block}
use Rattle.image.specs.Stores.{put_word, splice, zeros, put_bits, put_block, put_map_bits}
use Rattle.image.proofs.BlockLaws.{region-length, block-bytes}
use Rattle.image.proofs.StoreLaws.{Outside, splice-length, splice-byte, splice-agree, Keeps, keeps-refl, keeps-trans, keeps-weaken}
use Rattle.image.proofs.BitLaws.{put_bits-agree}
use Rattle.lists.specs.Counts.{count, In}
use Rattle.lists.proofs.CountLaws.{count_none}
use Rattle.sound.proofs.MemberLaws.{in-cases, in-here, in_tail}
use Rattle.header_edit.specs.Cleared.{cleared_slot}
use Rattle.header_edit.proofs.ClearedLaws.{cleared-length, cleared-bytes, cleared-fseq}
use Rattle.update.specs.Delete.{clear_slots}
use Rattle.image.proofs.WriteLaws.{put_block-block, put_block-keeps, put_block-region, put_block-bytes, put_map_bits-outside}

-- i is one of the n places from `at` on, or none of them.
abbrev In-run : ℕ → ℕ → ℕ → Type 0
In-run at n i = (at ≤ i) × (i < at + n)

in-or-out : (at n i : ℕ) → In-run at n i ⊎ Outside at n i
in-or-out at n i = go (dec_lt i at) (dec_lt i (at + n))
  where
    go : Dec (i < at) → Dec (i < at + n) → In-run at n i ⊎ Outside at n i
    go (no a) (yes b) = inl (omega arith, b)
    go (yes a) d = inr (λ low high. omega arith)
    go (no a) (no b) = inr (λ low high. b high)

-- A byte of the run that was written.
splice-inside : (b : List ℕ) (at : ℕ) (s : List ℕ) → at ≤ length b → (i : ℕ) → at ≤ i → i < at + length s → byte_at (splice b at s) i ≡ byte_at s (i - at)
splice-inside b at s h i low high =
    let e : at + (i - at) ≡ i = omega arith in
    ap (byte_at (splice b at s)) (sym e) ∙ splice-byte b at s h (i - at) (omega arith)

-- Two runs of bytes with no place in common: either may be written first.
pub splice-commute : (b : List ℕ) (at : ℕ) (s : List ℕ) (to : ℕ) (t : List ℕ) → at + length s ≤ length b → to + length t ≤ length b
    → ((i : ℕ) → at ≤ i → i < at + length s → Outside to (length t) i) → splice (splice b at s) to t ≡ splice (splice b to t) at s
splice-commute b at s to t f g apart =
    ext_get_or 0 (splice (splice b at s) to t) (splice (splice b to t) at s)
    (splice-length (splice b at s) to t g' ∙ lens ∙ sym (splice-length (splice b to t) at s f' ∙ lent))
    (λ i h. go i (in-or-out at (length s) i) (in-or-out to (length t) i))
  where
    lens : length (splice b at s) ≡ length b
    lens = splice-length b at s f

    lent : length (splice b to t) ≡ length b
    lent = splice-length b to t g

    f' : at + length s ≤ length (splice b to t)
    f' = omega (arith, lent)

    g' : to + length t ≤ length (splice b at s)
    g' = omega (arith, lens)

    -- A place of the first run, of the second, and of neither.
    one : (i : ℕ) → at ≤ i → i < at + length s → byte_at (splice (splice b at s) to t) i ≡ byte_at (splice (splice b to t) at s) i
    one i low high =
        (splice-agree (splice b at s) to t g').same i (apart i low high)
        ∙ splice-inside b at s (omega arith) i low high
        ∙ sym (splice-inside (splice b to t) at s (omega (arith, lent)) i low high)

    two : (i : ℕ) → Outside at (length s) i → to ≤ i → i < to + length t → byte_at (splice (splice b at s) to t) i ≡ byte_at (splice (splice b to t) at s) i
    two i out low high =
        splice-inside (splice b at s) to t (omega (arith, lens)) i low high
        ∙ sym ((splice-agree (splice b to t) at s f').same i out ∙ splice-inside b to t (omega arith) i low high)

    none : (i : ℕ) → Outside at (length s) i → Outside to (length t) i → byte_at (splice (splice b at s) to t) i ≡ byte_at (splice (splice b to t) at s) i
    none i out out' =
        (splice-agree (splice b at s) to t g').same i out'
        ∙ (splice-agree b at s f).same i out
        ∙ sym ((splice-agree (splice b to t) at s f').same i out ∙ (splice-agree b to t g).same i out')

    go : (i : ℕ) → In-run at (length s) i ⊎ Outside at (length s) i → In-run to (length t) i ⊎ Outside to (length t) i
        → byte_at (splice (splice b at s) to t) i ≡ byte_at (splice (splice b to t) at s) i
    go i (inl p) d = one i p.0 p.1
    go i (inr out) (inl q) = two i out q.0 q.1
    go i (inr out) (inr out') = none i out out'

-- A block, and the bits of a map in which it does not lie.
pub block-map-commute : (image : List ℕ) (k : ℕ) (b : List ℕ) (m q : ℕ) (js : List ℕ) (v : ℕ) → length b ≡ 512 → 512 * (k + 1) ≤ length image
    → 512 * (m + q) ≤ length image → Outside m q k → put_block (put_map_bits image m q js v) k b ≡ put_map_bits (put_block image k b) m q js v
unfolding put_block put_map_bits
block-map-commute image k b m q js v long f g out =
    splice-commute image (512 * m) bits (512 * k) b (omega (arith, len)) (omega arith) (λ i low high x y. out (omega (arith, len)) (omega (arith, len)))
    ∙ ap (λ (r : List ℕ). splice (splice image (512 * k) b) (512 * m) (put_bits r js v)) (sym same)
  where
    bits : List ℕ
    bits = put_bits (region image m q) js v

    len : length bits ≡ 512 * q
    len = (put_bits-agree js (region image m q) v).len ∙ region-length image m q g

    same : region (splice image (512 * k) b) m q ≡ region image m q
    same = put_block-region image k b long f m q out

-- Slots cleared, one after the other.

-- A list of blocks that lie in an image.
abbrev pub Fit : List ℕ → List ℕ → Type 0
Fit image ks = (k : ℕ) → In k ks → 512 * (k + 1) ≤ length image

pub clear_none : (image : List ℕ) → clear_slots image [] ≡ image
unfolding clear_slots
clear_none image = refl

pub clear-more : (image : List ℕ) (k : ℕ) (ks : List ℕ) → clear_slots image (k ∷ ks) ≡ clear_slots (put_block image k (cleared_slot (block image k))) ks
unfolding clear_slots
clear-more image k ks = refl

-- A slot that is cleared already stays as it is.
pub cleared-again : (h : List ℕ) → Bytes h → cleared_slot (cleared_slot h) ≡ cleared_slot h
unfolding cleared_slot
cleared-again h bytes = ap (put_word (zeros 512) 4) (cleared-fseq h bytes)

-- The first slot cleared.
module _ (image : List ℕ) (k : ℕ) (ks : List ℕ) (fit : Fit image (k ∷ ks)) where
  abbrev next : List ℕ
  next = put_block image k (cleared_slot (block image k))

  here : 512 * (k + 1) ≤ length image
  here = fit k (in-here k ks)

  next-keeps : Keeps (λ i. i ≡ k → ⊥) image next
  next-keeps = put_block-keeps image k (cleared_slot (block image k)) (cleared-length (block image k)) here

  next-block : block next k ≡ cleared_slot (block image k)
  next-block = put_block-block image k (cleared_slot (block image k)) (cleared-length (block image k)) here

  next-bytes : Bytes image → Bytes next
  next-bytes bytes =
      put_block-bytes image k (cleared_slot (block image k)) (cleared-length (block image k)) here bytes (cleared-bytes (block image k) (block-bytes image k bytes))

  next-fit : Fit next ks
  next-fit i m = omega (arith, next-keeps.len, fit i (in_tail i k ks m))

-- Every other block stays.
pub clear-keeps : (ks image : List ℕ) → Fit image ks → Keeps (λ i. In i ks → ⊥) image (clear_slots image ks)
clear-keeps [] image fit = rw (clear_none image) (keeps-refl (λ i. In i [] → ⊥) image)
clear-keeps (k ∷ ks) image fit =
    rw (clear-more image k ks)
    (keeps-trans
    (keeps-weaken (λ i out e. out (rw e (in-here k ks))) (next-keeps image k ks fit))
    (keeps-weaken (λ i out m. out (in_tail i k ks m)) (clear-keeps ks (next image k ks fit) (next-fit image k ks fit))))

pub clear-bytes : (ks image : List ℕ) → Fit image ks → Bytes image → Bytes (clear_slots image ks)
clear-bytes [] image fit bytes = rw (clear_none image) bytes
clear-bytes (k ∷ ks) image fit bytes = rw (clear-more image k ks) (clear-bytes ks (next image k ks fit) (next-fit image k ks fit) (next-bytes image k ks fit bytes))

-- Each of the list is cleared.
pub clear-block : (ks image : List ℕ) → Fit image ks → Bytes image → (i : ℕ) → In i ks → block (clear_slots image ks) i ≡ cleared_slot (block image i)
clear-block [] image fit bytes i m = absurd (omega (arith, count_none i))
clear-block (k ∷ ks) image fit bytes i m =
    rw (clear-more image k ks) (go (clear-block ks new (next-fit image k ks fit) (next-bytes image k ks fit bytes) i) (ℕ_discrete i k) (dec_lt 0 (count i ks)))
  where
    new : List ℕ
    new = next image k ks fit

    go : (In i ks → block (clear_slots new ks) i ≡ cleared_slot (block new i)) → Dec (i ≡ k) → Dec (0 < count i ks) → block (clear_slots new ks) i ≡ cleared_slot (block image i)
    go rest (no ne) (yes p) = rest p ∙ ap cleared_slot ((next-keeps image k ks fit).same i ne)
    go rest (no ne) (no p) = absurd (elim (in-cases i k ks m) [ inl e ↦ ne e | inr q ↦ p q ])
    go rest (yes e) (yes p) = rest p ∙ rw e (ap cleared_slot (next-block image k ks fit) ∙ cleared-again (block image k) (block-bytes image k bytes))
    go rest (yes e) (no p) = (clear-keeps ks new (next-fit image k ks fit)).same i p ∙ rw e (next-block image k ks fit)

-- The bits of a map in which none of the slots lies.
pub clear-map-commute : (ks image : List ℕ) (m q : ℕ) (js : List ℕ) (v : ℕ) → Fit image ks → 512 * (m + q) ≤ length image → ((k : ℕ) → In k ks → Outside m q k)
    → clear_slots (put_map_bits image m q js v) ks ≡ put_map_bits (clear_slots image ks) m q js v
clear-map-commute [] image m q js v fit g out = rw (clear_none (put_map_bits image m q js v), clear_none image)
clear-map-commute (k ∷ ks) image m q js v fit g out =
    clear-more (put_map_bits image m q js v) k ks
    ∙ ap (λ (b : List ℕ). clear_slots (put_block (put_map_bits image m q js v) k (cleared_slot b)) ks) ((put_map_bits-outside image m q js v g).same k (out k (in-here k ks)))
    ∙ ap (λ (r : List ℕ). clear_slots r ks) (block-map-commute image k (cleared_slot (block image k)) m q js v (cleared-length (block image k)) (fit k (in-here k ks)) g (out k (in-here k ks)))
    ∙ clear-map-commute ks (next image k ks fit) m q js v (next-fit image k ks fit) (omega (arith, (next-keeps image k ks fit).len)) (λ i p. out i (in_tail i k ks p))
    ∙ ap (λ (r : List ℕ). put_map_bits r m q js v) (sym (clear-more image k ks))
