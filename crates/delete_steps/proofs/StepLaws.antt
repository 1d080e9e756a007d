-- Laws of stores into a map and into slots, one after the other.
use mathlib.Core.Path.{◌≡◌, refl, sym, ap, ap₂, ◌∙◌}
use mathlib.Core.List.{List, [], ◌∷◌, ◌++◌, append-nil, append_assoc}
use Prim.Native.Nat.{ℕ, ◌+◌, ◌*◌, ◌-◌, ◌≤◌, ◌<◌}
use native.Mathlib.Numerals.{add-one}
use native.Mathlib.Omega.{arith}
use lib.ListN.{length, get_or, take, drop, take-append-drop}
use lib.Seq.{length-take-le, take-suc, take_at, drop_at}
use Rattle.image.specs.Blocks.{region, block}
use Rattle.image.specs.Stores.{splice, put_bits, put_block, put_map_bits}
use Rattle.image.proofs.StoreLaws.{part-splice}
use Rattle.image.proofs.BitLaws.{put_bits-none, put_bits-append}
use Rattle.pointers.specs.Pointers.{pointers_at, pointers, Fits, blocks_of}
use Rattle.pointers.specs.Pointers.{flat}
use Rattle.covers.specs.Covered.{Ends}
use Rattle.header_edit.specs.Cleared.{cleared_slot}
use Rattle.update.specs.Create.{index_bit}
use Rattle.update.specs.Delete.{index_bits, clear_slots}
use Rattle.image.proofs.WriteLaws.{bits-long, part-bits, put_map_bits-map, put_map_bits-length, put_map_bits-outside}
use Rattle.delete_steps.specs.Steps.{PointsInto, Freeable}

-- The second of two runs that are written at one place is what is left.
splice-again : (b : List ℕ) (at : ℕ) (s t : List ℕ) → at ≤ length b → length t ≡ length s → splice (splice b at s) at t ≡ splice b at t
unfolding splice
splice-again b at s t h e =
    let rest = s ++ drop (at + length s) b in
    let head : length (take at b) ≡ at = length-take-le at b h in
    let after : drop (length s) (drop at (take at b ++ rest)) ≡ drop (at + length s) b =
    ap (drop (length s)) (drop_at (take at b) rest at head) ∙ drop_at s (drop (at + length s) b) (length s) refl in
    sym (part-splice (splice b at s) at (length s) t e)
    ∙ ap₂ (λ (x y : List ℕ). x ++ (t ++ y)) (take_at (take at b) rest at head) after
    ∙ ap (λ (n : ℕ). take at b ++ (t ++ drop (at + n) b)) (sym e)

-- A map in the q blocks from LBN k on.
module _ (image : List ℕ) (k q : ℕ) (fits : 512 * (k + q) ≤ length image) where
  -- No bit, and more bits.
  pub put-none : (v : ℕ) → put_map_bits image k q [] v ≡ image
  unfolding region
  put-none v =
      sym (part-bits image k q [] v fits (512 * q) (region image k q) refl (sym (put_bits-none (region image k q) v)))
      ∙ ap (λ (r : List ℕ). take (512 * k) image ++ r) (take-append-drop (512 * q) (drop (512 * k) image))
      ∙ take-append-drop (512 * k) image

  pub put-append : (js ks : List ℕ) (v : ℕ) → put_map_bits (put_map_bits image k q js v) k q ks v ≡ put_map_bits image k q (js ++ ks) v
  unfolding put_map_bits
  put-append js ks v =
      ap (λ (m : List ℕ). splice (put_map_bits image k q js v) (512 * k) (put_bits m ks v)) (put_map_bits-map image k q js v fits)
      ∙ ap (splice (put_map_bits image k q js v) (512 * k)) (sym (put_bits-append js ks (region image k q) v))
      ∙ splice-again image (512 * k) (put_bits (region image k q) js v) (put_bits (region image k q) (js ++ ks) v) (omega arith)
      (bits-long image k q (js ++ ks) v fits ∙ sym (bits-long image k q js v fits))

  -- Bits of the map in an image in which bits of it were put.
  pub put-more : (js ks ls : List ℕ) (v : ℕ) (old new : List ℕ) → old ≡ put_map_bits image k q js v → new ≡ put_map_bits old k q ks v → js ++ ks ≡ ls
      → new ≡ put_map_bits image k q ls v
  put-more js ks ls v old new e f g =
      f ∙ ap (λ (b : List ℕ). put_map_bits b k q ks v) e ∙ put-append js ks v ∙ ap (λ (l : List ℕ). put_map_bits image k q l v) g

  pub put-length : (js : List ℕ) (v : ℕ) (old : List ℕ) → old ≡ put_map_bits image k q js v → length old ≡ length image
  put-length js v old e = ap length e ∙ put_map_bits-length image k q js v fits

  -- A block outside the map stays.
  pub put-outside : (js : List ℕ) (v : ℕ) (old : List ℕ) → old ≡ put_map_bits image k q js v → (i : ℕ) → (k ≤ i → i < k + q → ⊥) → block old i ≡ block image i
  put-outside js v old e i out = ap (λ (b : List ℕ). block b i) e ∙ (put_map_bits-outside image k q js v fits).same i out

-- Pointer p of a header whose pointers lie in it and end at or below k.
pub points-into : (k : ℕ) (h : List ℕ) (first p : ℕ) → Fits h → Ends k h → first ≡ pointers_at h → p < pointers h → PointsInto k h (first + 4 * p)
points-into k h first p fits ends e l = rw e (record { inside = omega arith; below = ends.each p l })

pub freeable-same : (image old : List ℕ) (k q lbn : ℕ) → block old lbn ≡ block image lbn → Freeable image k q lbn → Freeable old k q lbn
freeable-same image old k q lbn e f = record { outside = f.outside; fits = rw e f.fits; ends = rw e f.ends }

-- One element more of a list that a loop has come to.
take_more : (l : List ℕ) (i : ℕ) → i < length l → take (i + 1) l ≡ take i l ++ (get_or l i 0 ∷ [])
take_more l i h = rw (add-one i) (take-suc l i 0 h)

-- The index bits of numbers.
index_bits-append : (ns ms : List ℕ) → index_bits (ns ++ ms) ≡ index_bits ns ++ index_bits ms
unfolding index_bits
index_bits-append [] ms = refl
index_bits-append (n ∷ ns) ms = ap (λ (l : List ℕ). index_bit n ∷ l) (index_bits-append ns ms)

pub index_bits-none : (ns : List ℕ) → index_bits (take 0 ns) ≡ []
unfolding index_bits
index_bits-none ns = refl

pub index_bits-more : (ns : List ℕ) (i : ℕ) → i < length ns → index_bits (take i ns) ++ ((get_or ns i 0 - 1) ∷ []) ≡ index_bits (take (i + 1) ns)
unfolding index_bits index_bit
index_bits-more ns i h = sym (ap index_bits (take_more ns i h) ∙ index_bits-append (take i ns) (get_or ns i 0 ∷ []))

-- The blocks of headers.
flat_append : (hdr : ℕ → List ℕ) (ns ms : List ℕ) → flat hdr (ns ++ ms) ≡ flat hdr ns ++ flat hdr ms
unfolding flat
flat_append hdr [] ms = refl
flat_append hdr (n ∷ ns) ms =
    ap (λ (l : List ℕ). blocks_of (hdr n) ++ l) (flat_append hdr ns ms) ∙ sym (append_assoc (blocks_of (hdr n)) (flat hdr ns) (flat hdr ms))

pub flat-none : (hdr : ℕ → List ℕ) (ns : List ℕ) → flat hdr (take 0 ns) ≡ []
unfolding flat
flat-none hdr ns = refl

pub flat-more : (hdr : ℕ → List ℕ) (ns : List ℕ) (i : ℕ) → i < length ns → flat hdr (take i ns) ++ blocks_of (hdr (get_or ns i 0)) ≡ flat hdr (take (i + 1) ns)
unfolding flat
flat-more hdr ns i h =
    sym
    (ap (flat hdr) (take_more ns i h)
    ∙ flat_append hdr (take i ns) (get_or ns i 0 ∷ [])
    ∙ ap (λ (l : List ℕ). flat hdr (take i ns) ++ l) (append-nil (blocks_of (hdr (get_or ns i 0)))))

-- Slots cleared in their order.
clear-append : (ks : List ℕ) (image : List ℕ) (k : ℕ)
    → clear_slots image (ks ++ (k ∷ [])) ≡ put_block (clear_slots image ks) k (cleared_slot (block (clear_slots image ks) k))
unfolding clear_slots
clear-append [] image k = refl
clear-append (j ∷ ks) image k = clear-append ks (put_block image j (cleared_slot (block image j))) k

pub clear_none : (image ks : List ℕ) → clear_slots image (take 0 ks) ≡ image
unfolding clear_slots
clear_none image ks = refl

pub clear-more : (image ks : List ℕ) (i : ℕ) → i < length ks → (old new : List ℕ) → old ≡ clear_slots image (take i ks)
    → new ≡ put_block old (get_or ks i 0) (cleared_slot (block old (get_or ks i 0))) → new ≡ clear_slots image (take (i + 1) ks)
clear-more image ks i h old new e f =
    f
    ∙ ap (λ (b : List ℕ). put_block b (get_or ks i 0) (cleared_slot (block b (get_or ks i 0)))) e
    ∙ sym (ap (clear_slots image) (take_more ks i h) ∙ clear-append (take i ks) image (get_or ks i 0))
