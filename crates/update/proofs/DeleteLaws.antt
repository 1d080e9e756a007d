-- The image after delete: the index bits of the chain are clear, its slots 0 but for the sequence word, its blocks free, and all else is as it was.
use mathlib.Core.Path.{◌≡◌, ap, ◌∙◌}
use mathlib.Core.Bool.{true, false, and-false}
use mathlib.Core.Logic.{◌⊎◌, inl, inr}
use mathlib.Core.List.{List, [], ◌∷◌}
use Prim.Native.Nat.{ℕ, ◌+◌, ◌*◌, ◌-◌, ◌/◌, ◌≤◌, ◌<◌}
use native.Mathlib.Decide.{dec_lt}
use native.Mathlib.Omega.{arith}
use lib.ListN.{length}
use Rattle.image.specs.Words.{Bytes}
use Rattle.image.specs.Blocks.{region, block}
use Rattle.image.specs.Bits.{bit_at}
use Rattle.image.proofs.StoreLaws.{Outside, Keeps, keeps-trans, keeps-weaken}
use Rattle.home.specs.Home.{blocks}
use Rattle.volume.specs.Volume.{ibsz, iblb, slot, slots, header, index_map, in_use, map_blocks, base, storage_map}
use Rattle.volume.proofs.VolumeLaws.{slot-below, base-fits}
use Rattle.chains.specs.Chains.{chain_of, file_blocks, slots_of}
use Rattle.pointers.specs.Pointers.{flat}
use Rattle.lists.specs.Counts.{count, In}
use Rattle.lists.proofs.CountLaws.{count_none, count-find}
use Rattle.slots.proofs.SlotLaws.{used-range}
use Rattle.sound.specs.Claims.{IsFile}
use Rattle.sound.proofs.MemberLaws.{in-cases, in-here, in_tail}
use Rattle.sound.proofs.ChainLaws.{known-file, member-used, only-head, chains-apart}
use Rattle.sound.proofs.ApartLaws.{file-inside}
use Rattle.header_edit.specs.Cleared.{cleared_slot}
use Rattle.image.specs.Stores.{put_map_bits}
use Rattle.update.specs.Writes.{unused_bit, free_bit}
use Rattle.update.specs.Create.{index_bit}
use Rattle.update.specs.Delete.{index_bits, clear_slots, without_numbers}
use Rattle.update.proofs.Effects.{Clear, Usable, Written, Stays, Deleted}
use Rattle.update.proofs.FrameLaws.{slot-clear, maps-apart, numbers_fit, blocks-same, ibsz-same, iblb-same, fmax-same, slot_same, base_same, header-same, fixed-after}
use Rattle.image.proofs.WriteLaws.{keeps-region, put_map_bits-outside, put_map_bits-length, put_map_bits-keeps, put_map_bits-bytes, put_map_bits-bit, put_map_bits-rest}
use Rattle.update.proofs.SameLaws.{used-same}
use Rattle.update.proofs.ClearLaws.{Fit, clear-keeps, clear-bytes, clear-block, clear-map-commute}

-- What a list of numbers gives, one each: x is given by a member.
pub record From (f : ℕ → ℕ) (x : ℕ) (ns : List ℕ) : Type 0 where
  pub from : ℕ
  pub inside : In from ns
  pub here : x ≡ f from

from-here : (f : ℕ → ℕ) (n : ℕ) (ns : List ℕ) (x : ℕ) → x ≡ f n → From f x (n ∷ ns)
from-here f n ns x e = record { from = n; inside = in-here n ns; here = e }

from_tail : (f : ℕ → ℕ) (n : ℕ) (ns : List ℕ) (x : ℕ) → From f x ns → From f x (n ∷ ns)
from_tail f n ns x r = record { from = r.from; inside = in_tail r.from n ns r.inside; here = r.here }

-- The index bits of a list of numbers, and its slots.
pub index_bits-in : (ns : List ℕ) (n : ℕ) → In n ns → In (index_bit n) (index_bits ns)
unfolding index_bits
index_bits-in [] n m = absurd (omega (arith, count_none n))
index_bits-in (k ∷ ns) n m = go (index_bits-in ns n) (in-cases n k ns m)
  where
    go : (In n ns → In (index_bit n) (index_bits ns)) → (n ≡ k) ⊎ In n ns → In (index_bit n) (index_bit k ∷ index_bits ns)
    go rest (inl e) = rw e (in-here (index_bit k) (index_bits ns))
    go rest (inr q) = in_tail (index_bit n) (index_bit k) (index_bits ns) (rest q)

pub index_bits-from : (ns : List ℕ) (x : ℕ) → In x (index_bits ns) → From index_bit x ns
unfolding index_bits
index_bits-from [] x m = absurd (omega (arith, count_none x))
index_bits-from (k ∷ ns) x m = go (index_bits-from ns x) (in-cases x (index_bit k) (index_bits ns) m)
  where
    go : (In x (index_bits ns) → From index_bit x ns) → (x ≡ index_bit k) ⊎ In x (index_bits ns) → From index_bit x (k ∷ ns)
    go rest (inl e) = from-here index_bit k ns x e
    go rest (inr q) = from_tail index_bit k ns x (rest q)

pub slots_of-in : (image ns : List ℕ) (n : ℕ) → In n ns → In (slot image n) (slots_of image ns)
unfolding slots_of
slots_of-in image [] n m = absurd (omega (arith, count_none n))
slots_of-in image (k ∷ ns) n m = go (slots_of-in image ns n) (in-cases n k ns m)
  where
    go : (In n ns → In (slot image n) (slots_of image ns)) → (n ≡ k) ⊎ In n ns → In (slot image n) (slot image k ∷ slots_of image ns)
    go rest (inl e) = rw e (in-here (slot image k) (slots_of image ns))
    go rest (inr q) = in_tail (slot image n) (slot image k) (slots_of image ns) (rest q)

pub slots_of-from : (image ns : List ℕ) (x : ℕ) → In x (slots_of image ns) → From (slot image) x ns
unfolding slots_of
slots_of-from image [] x m = absurd (omega (arith, count_none x))
slots_of-from image (k ∷ ns) x m = go (slots_of-from image ns x) (in-cases x (slot image k) (slots_of image ns) m)
  where
    go : (In x (slots_of image ns) → From (slot image) x ns) → (x ≡ slot image k) ⊎ In x (slots_of image ns) → From (slot image) x (k ∷ ns)
    go rest (inl e) = from-here (slot image) k ns x e
    go rest (inr q) = from_tail (slot image) k ns x (rest q)

-- Both maps of a usable image, written in any bits, and slots.
module _ {image : List ℕ} (g : Usable image) where
  pub index-fits : 512 * (iblb image + ibsz image) ≤ length image
  index-fits = omega (arith, g.opens.size, g.opens.fits)

  pub storage-fits : 512 * (base image + map_blocks (blocks image)) ≤ length image
  storage-fits = omega (arith, g.opens.size, base-fits g.opens)

  module _ (is : List ℕ) (u : ℕ) where
    abbrev after : List ℕ
    after = put_map_bits image (iblb image) (ibsz image) is u

    after-length : length after ≡ length image
    after-length = put_map_bits-length image (iblb image) (ibsz image) is u index-fits

    after-fits : 512 * (base image + map_blocks (blocks image)) ≤ length after
    after-fits = omega (arith, after-length, storage-fits)

    -- A header reads the same after bits of the index map are put, and after bits of the storage map.
    pub header-index : (k : ℕ) → 1 ≤ k → k ≤ slots image → block after (slot image k) ≡ header image k
    unfolding header
    header-index k low high = (put_map_bits-outside image (iblb image) (ibsz image) is u index-fits).same (slot image k) (slot-clear image g k low high).index

    pub header-maps : (js : List ℕ) (v k : ℕ) → 1 ≤ k → k ≤ slots image → block (put_map_bits after (base image) (map_blocks (blocks image)) js v) (slot image k) ≡ header image k
    header-maps js v k low high =
        (put_map_bits-outside after (base image) (map_blocks (blocks image)) js v after-fits).same (slot image k) (slot-clear image g k low high).storage
        ∙ header-index k low high

    -- The slots of numbers that have one.
    module _ (ns : List ℕ) (slotted : (k : ℕ) → In k ns → (1 ≤ k) × (k ≤ slots image)) where
      pub slots-fit : Fit after (slots_of image ns)
      slots-fit x m =
          let r = slots_of-from image ns x m in
          let s = slotted r.from r.inside in
          omega (arith, r.here, after-length, g.opens.size, slot-below g.opens r.from s.0 s.1)

      -- Slots may be cleared before bits of the storage map are put, or after.
      pub commute : (js : List ℕ) (v : ℕ)
          → clear_slots (put_map_bits after (base image) (map_blocks (blocks image)) js v) (slots_of image ns)
          ≡ put_map_bits (clear_slots after (slots_of image ns)) (base image) (map_blocks (blocks image)) js v
      commute js v =
          clear-map-commute (slots_of image ns) after (base image) (map_blocks (blocks image)) js v slots-fit after-fits
          (λ x m low high.
          let r = slots_of-from image ns x m in
          let s = slotted r.from r.inside in
          (slot-clear image g r.from s.0 s.1).storage (omega (arith, r.here)) (omega (arith, r.here)))

-- File n of a usable image, none of the known files, is deleted.
pub record Deleting (image : List ℕ) (n : ℕ) : Type 0 where
  pub usable : Usable image
  pub file : IsFile image n
  pub high : 6 ≤ n

-- Block i is no slot of the file, and holds none of its bits in either map.
pub record Untouched (image : List ℕ) (n i : ℕ) : Type 0 where
  pub slots : (k : ℕ) → In k (chain_of image n) → i ≡ slot image k → ⊥
  pub index : (k : ℕ) → In k (chain_of image n) → i ≡ iblb image + index_bit k / 4096 → ⊥
  pub storage : (j : ℕ) → In j (file_blocks image n) → i ≡ base image + j / 4096 → ⊥

module _ {image : List ℕ} {n : ℕ} (d : Deleting image n) where
  abbrev g : Usable image
  g = d.usable

  abbrev members : List ℕ
  members = chain_of image n

  abbrev Member : ℕ → Type 0
  Member k = In k (chain_of image n)

  -- The image after each of the three steps.
  abbrev a : List ℕ
  a = put_map_bits image (iblb image) (ibsz image) (index_bits (chain_of image n)) unused_bit

  abbrev w : List ℕ
  w = clear_slots a (slots_of image (chain_of image n))

  abbrev z : List ℕ
  z = without_numbers image (chain_of image n)

  -- Members of the chain are in use, are no known files, and have slots.
  pub delete-used : (k : ℕ) → Member k → in_use image k ≡ true
  delete-used k m = member-used image g.safe n d.file k m

  pub delete-known : (k : ℕ) → Member k → (6 ≤ k) × (k ≤ slots image)
  delete-known k m = (go (dec_lt 5 k), g.safe.slotted k (delete-used k m))
    where
      go : Dec (5 < k) → 6 ≤ k
      go (yes h) = h
      go (no h) =
          let r = used-range image k (delete-used k m) in
          let e : k ≡ n = only-head image g.safe n d.file k (g.safe.known k r.0 (omega arith)).first m in
          absurd (omega (arith, d.high))

  slotted : (k : ℕ) → Member k → (1 ≤ k) × (k ≤ slots image)
  slotted k m = (omega (arith, (delete-known k m).0), (delete-known k m).1)

  -- No other file has a member in the chain, and so file 3 has none.
  pub delete-apart : (f : ℕ) → IsFile image f → (f ≡ n → ⊥) → (x : ℕ) → In x (chain_of image f) → Member x → ⊥
  delete-apart f file ne x m m' = ne (chains-apart image g.safe f n file d.file x m m')

  pub delete-three : (x : ℕ) → In x (chain_of image 3) → Member x → ⊥
  delete-three = delete-apart 3 (known-file image g.safe 3 (omega arith) (omega arith)) (λ e. omega (arith, d.high))

  pub delete-one : (x : ℕ) → In x (chain_of image 1) → Member x → ⊥
  delete-one = delete-apart 1 (known-file image g.safe 1 (omega arith) (omega arith)) (λ e. omega (arith, d.high))

  -- The file's blocks lie on the volume, and so the storage map has their bits; the index map has those of the members.
  pub delete-below : (j : ℕ) → In j (file_blocks image n) → j < blocks image
  delete-below j m =
      let r = count-find j (file_blocks image n) m in
      omega (arith, r.here, file-inside image g.safe n r.at d.file r.inside)

  index-small : (j : ℕ) → In j (index_bits members) → j < 4096 * ibsz image
  unfolding index_bit
  index-small j m =
      let r = index_bits-from members j m in
      omega (arith, r.here, used-range image r.from (delete-used r.from r.inside), numbers_fit image g)

  storage-small : (j : ℕ) → In j (flat (header image) members) → j < 4096 * map_blocks (blocks image)
  unfolding file_blocks map_blocks
  storage-small j m = omega (arith, delete-below j m)

  -- What each step keeps.
  keeps₁ : Keeps (λ i. (j : ℕ) → In j (index_bits members) → i ≡ iblb image + j / 4096 → ⊥) image a
  keeps₁ = put_map_bits-keeps image (iblb image) (ibsz image) (index_bits members) unused_bit (index-fits g)

  fit : Fit a (slots_of image members)
  fit = slots-fit g (index_bits members) unused_bit members slotted

  keeps₂ : Keeps (λ i. In i (slots_of image members) → ⊥) a w
  keeps₂ = clear-keeps (slots_of image members) a fit

  w_fits : 512 * (base image + map_blocks (blocks image)) ≤ length w
  w_fits = omega (arith, keeps₁.len, keeps₂.len, storage-fits g)

  keeps₃ : Keeps (λ i. (j : ℕ) → In j (flat (header image) members) → i ≡ base image + j / 4096 → ⊥) w z
  unfolding without_numbers
  keeps₃ = put_map_bits-keeps w (base image) (map_blocks (blocks image)) (flat (header image) members) free_bit w_fits

  -- Every block but the slots of the file and those that hold its bits in the maps stays.
  pub delete-others : Keeps (Untouched image n) image z
  unfolding file_blocks
  delete-others =
      keeps-trans
      (keeps-weaken
      (λ i c j m e.
      let r = index_bits-from members j m in
      c.index r.from r.inside (rw r.here at e))
      keeps₁)
      (keeps-trans
      (keeps-weaken
      (λ i c m.
      let r = slots_of-from image members i m in
      c.slots r.from r.inside r.here)
      keeps₂)
      (keeps-weaken (λ i c. c.storage) keeps₃))

  clear-untouched : (i : ℕ) → Clear image Member i → Untouched image n i
  unfolding file_blocks
  clear-untouched i c = record {
    slots = c.slots;
    index = λ k m e. c.index (omega arith) (omega (arith, index-small (index_bit k) (index_bits-in members k m)));
    storage = λ j m e. c.storage (omega arith) (omega (arith, storage-small j m));
  }

  pub delete-written : Written image z Member
  delete-written = record { usable = g; known = delete-known; apart = λ k m i. delete-one k i m; keeps = keeps-weaken clear-untouched delete-others }

  pub delete-length : length z ≡ length image
  delete-length = delete-others.len

  a-bytes : Bytes a
  a-bytes = put_map_bits-bytes image (iblb image) (ibsz image) (index_bits members) unused_bit (index-fits g) (omega arith) g.bytes index-small

  w-bytes : Bytes w
  w-bytes = clear-bytes (slots_of image members) a fit a-bytes

  pub delete-bytes : Bytes z
  unfolding without_numbers
  delete-bytes = put_map_bits-bytes w (base image) (map_blocks (blocks image)) (flat (header image) members) free_bit w_fits (omega arith) w-bytes storage-small

  -- Blocks outside the storage map are those after the slots were cleared.
  outside : Keeps (Outside (base image) (map_blocks (blocks image))) w z
  outside = keeps-weaken (λ i out j m e. out (omega arith) (omega (arith, storage-small j m))) keeps₃

  -- A block that is no slot of a member is none of those that are cleared.
  no_slot : (i : ℕ) → ((k : ℕ) → Member k → i ≡ slot image k → ⊥) → In i (slots_of image members) → ⊥
  no_slot i out m =
      let r = slots_of-from image members i m in
      out r.from r.inside r.here

  -- The index map after delete is that of the first step, and the storage map before the last step is the image's: no slot lies in either map, and
  -- the maps lie apart.
  index-after : index_map z ≡ region a (iblb image) (ibsz image)
  unfolding index_map
  index-after =
      rw (iblb-same delete-written, ibsz-same delete-written)
      (keeps-region outside (iblb image) (ibsz image) (λ i low high x y. maps-apart image g i x y low high)
      ∙ keeps-region keeps₂ (iblb image) (ibsz image)
      (λ i low high. no_slot i (λ k m e. (slot-clear image g k (slotted k m).0 (slotted k m).1).index (omega arith) (omega arith))))

  storage-before : region w (base image) (map_blocks (blocks image)) ≡ storage_map image
  unfolding storage_map
  storage-before =
      keeps-region keeps₂ (base image) (map_blocks (blocks image))
      (λ i low high. no_slot i (λ k m e. (slot-clear image g k (slotted k m).0 (slotted k m).1).storage (omega arith) (omega arith)))
      ∙ keeps-region (put_map_bits-outside image (iblb image) (ibsz image) (index_bits members) unused_bit (index-fits g)) (base image) (map_blocks (blocks image)) (maps-apart image g)

  -- A member is in use no longer, and every other number as before.
  gone : (k : ℕ) → Member k → in_use z k ≡ false
  unfolding in_use index_bit
  gone k m =
      let e : bit_at (region a (iblb image) (ibsz image)) (k - 1) ≡ 0 =
      put_map_bits-bit image (iblb image) (ibsz image) (index_bits members) unused_bit (index-fits g) (omega arith) g.bytes index-small (index_bit k) (index_bits-in members k m) in
      rw (index-after, e, and-false)

  others : (k : ℕ) → count k members ≡ 0 → in_use z k ≡ in_use image k
  unfolding index_map index_bit
  others k none =
      used-same image z (fmax-same delete-written) k
      (λ low high.
      ap (λ (r : List ℕ). bit_at r (k - 1)) index-after
      ∙ put_map_bits-rest image (iblb image) (ibsz image) (index_bits members) unused_bit (index-fits g) (omega arith) g.bytes index-small (k - 1)
      (go low (dec_lt 0 (count (k - 1) (index_bits members)))))
    where
      go : 1 ≤ k → Dec (0 < count (k - 1) (index_bits members)) → count (k - 1) (index_bits members) ≡ 0
      go low (yes p) =
          let r = index_bits-from members (k - 1) p in
          let e : r.from ≡ k = omega (arith, r.here, (slotted r.from r.inside).0) in
          absurd (omega (arith, rw e at r.inside))
      go low (no p) = omega arith

  pub delete-stays : Stays image z
  delete-stays k m = others k (none (dec_lt 0 (count k members)))
    where
      none : Dec (0 < count k members) → count k members ≡ 0
      none (yes p) = absurd (delete-one k m p)
      none (no p) = omega arith

  pub delete-headers : (k : ℕ) → Member k → header z k ≡ cleared_slot (header image k)
  unfolding header
  delete-headers k m =
      let s = slotted k m in
      ap (block z) (slot_same delete-written delete-stays k)
      ∙ outside.same (slot image k) (slot-clear image g k s.0 s.1).storage
      ∙ clear-block (slots_of image members) a fit a-bytes (slot image k) (slots_of-in image members k m)
      ∙ ap cleared_slot (header-index g (index_bits members) unused_bit k s.0 s.1)

  storage-after : storage_map z ≡ region z (base image) (map_blocks (blocks image))
  unfolding storage_map
  storage-after = rw (base_same delete-written delete-stays, blocks-same delete-written)

  -- What delete does.
  pub delete-effect : Deleted image z (chain_of image n)
  unfolding without_numbers
  delete-effect = record {
    fixed = fixed-after delete-written delete-stays delete-three;
    gone = gone;
    used = others;
    headers = λ k u none. header-same delete-written delete-stays k (used-range image k u).0 (g.safe.slotted k u) (λ m. omega arith);
    now = λ j m.
        ap (λ (r : List ℕ). bit_at r j) storage-after
        ∙ put_map_bits-bit w (base image) (map_blocks (blocks image)) (flat (header image) members) free_bit w_fits (omega arith) w-bytes storage-small j m;
    rest = λ j h none.
        ap (λ (r : List ℕ). bit_at r j) storage-after
        ∙ put_map_bits-rest w (base image) (map_blocks (blocks image)) (flat (header image) members) free_bit w_fits (omega arith) w-bytes storage-small j none
        ∙ ap (λ (r : List ℕ). bit_at r j) storage-before;
  }

  -- It is the same image where the blocks are freed before the slots are cleared.
  pub delete-commute : clear_slots (put_map_bits a (base image) (map_blocks (blocks image)) (flat (header image) (chain_of image n)) free_bit) (slots_of image (chain_of image n)) ≡ z
  unfolding without_numbers
  delete-commute = commute g (index_bits members) unused_bit members slotted (flat (header image) members) free_bit
