-- The three steps on the chain of a file of a usable image: each may be taken, and together they are what delete does to the image.
use mathlib.Core.Path.{◌≡◌, refl, sym, ap, ap₂, ◌∙◌}
use mathlib.Core.Bool.{true, and-eq-true_iff}
use mathlib.Core.List.{List, [], ◌∷◌, ◌++◌}
use Prim.Native.Nat.{ℕ, ◌+◌, ◌*◌, ◌≤◌, ◌<◌}
use native.Mathlib.Omega.{arith}
use lib.ListN.{length, get_or, take, length-take}
use lib.Seq.{get_or-take}
use Rattle.std.specs.Prelude.{Ok}
use Rattle.image.specs.Blocks.{block}
use Rattle.image.specs.Words.{Bytes}
use Rattle.pointers.specs.Pointers.{blocks_of}
use Rattle.whole.proofs.WholeLaws.{whole-fits}
use Rattle.home.specs.Home.{blocks}
use Rattle.volume.specs.Volume.{ibsz, iblb, slot, slots, has_slot, header, fault_of, in_use, is_number, map_blocks, base, volume_of}
use Rattle.volume.specs.Opening.{Laid, open_volume}
use Rattle.volume.specs.declared.Volume.{Volume}
use Rattle.volume.proofs.VolumeLaws.{slot-below, header-length, opens, says, says-base}
use Rattle.chains.specs.Chains.{chain_of, IsFirst, slots_of}
use Rattle.pointers.specs.Pointers.{flat}
use Rattle.lists.specs.Counts.{In}
use Rattle.lists.proofs.CountLaws.{count_at}
use Rattle.slots.proofs.SlotLaws.{used-range}
use Rattle.covers.proofs.CoverLaws.{whole-ends}
use Rattle.sound.specs.Claims.{IsFile}
use Rattle.sound.specs.Sound.{Safe}
use Rattle.sound.proofs.MemberLaws.{in-here, in_tail}
use Rattle.image.specs.Stores.{put_map_bits}
use Rattle.update.specs.Delete.{index_bits, clear_slots, without_numbers}
use Rattle.update.proofs.Effects.{Usable}
use Rattle.update.proofs.FrameLaws.{slot-clear, numbers_fit}
use Rattle.update.proofs.DeleteLaws.{index-fits, storage-fits, header-index, Deleting, delete-used, delete-known, delete-commute}
use Rattle.chains.specs.declared.Members.{Members}
use Rattle.chains.specs.Members.{Lists}
use Rattle.chains.proofs.MemberLaws.{slots_of-get_d, slots_of-length}
use Rattle.delete_steps.specs.Steps.{HaveBits, Freeable, AllFreeable, AllInside}
use Rattle.delete_steps.proofs.StepLaws.{put-length}

-- A number whose header was found is that of a file.
pub first-file : (image : List ℕ) (n : ℕ) → IsFirst image n → IsFile image n
unfolding is_number
first-file image n f = record { used = ((and-eq-true_iff (in_use image n) (has_slot image n)).0 f.0).0; first = f.2 }

-- A file that is found on a safe image, and is not a known one, may be deleted.
pub deleting : (image : List ℕ) (n : ℕ) → Bytes image → open_volume image ≡ Ok tt → Safe image → IsFirst image n → 6 ≤ n → Deleting image n
deleting image n bytes o safe f high =
    record { usable = record { bytes = bytes; opens = opens image o; safe = safe }; file = first-file image n f; high = high }

-- The blocks of headers by the blocks that hold them.
flat-slots : (image a ns : List ℕ) → ((k : ℕ) → In k ns → block a (slot image k) ≡ header image k) → flat (block a) (slots_of image ns) ≡ flat (header image) ns
unfolding flat slots_of
flat-slots image a [] same = refl
flat-slots image a (n ∷ ns) same =
    ap₂ (λ (x y : List ℕ). x ++ y) (ap blocks_of (same n (in-here n ns))) (flat-slots image a ns (λ k m. same k (in_tail k n ns m)))

module _ (image : List ℕ) (n : ℕ) (d : Deleting image n) (v : Volume) (e : v ≡ volume_of image) (m : Members) (l : Lists image n m) where
  abbrev g : Usable image
  g = d.usable

  laid : Laid image v
  laid = says image v e

  based : v.base.0 ≡ base image
  based = says-base image v e

  abbrev member : ℕ → ℕ
  member i = get_or (chain_of image n) i 0

  -- Member i of the chain: it is in use and has a slot; and where the two lists have it.
  inside : (i : ℕ) → i < m.count → In (member i) (chain_of image n)
  inside i h = count_at (chain_of image n) i (omega (arith, l.long))

  used : (i : ℕ) → i < m.count → in_use image (member i) ≡ true
  used i h = delete-used d (member i) (inside i h)

  has : (i : ℕ) → i < m.count → (1 ≤ member i) × (member i ≤ slots image)
  has i h = (omega (arith, delete-known d (member i) (inside i h)), (delete-known d (member i) (inside i h)).1)

  number_at : (i : ℕ) → i < m.count → get_or m.numbers i 0 ≡ member i
  number_at i h = sym (get_or-take m.count m.numbers i 0 h) ∙ ap (λ (ns : List ℕ). get_or ns i 0) l.numbers

  slot_at : (i : ℕ) → i < m.count → get_or m.slots i 0 ≡ slot image (member i)
  slot_at i h =
      sym (get_or-take m.count m.slots i 0 h)
      ∙ ap (λ (ks : List ℕ). get_or ks i 0) l.slots
      ∙ slots_of-get_d image (chain_of image n) i (omega (arith, l.long))

  numbers-long : m.count ≤ length m.numbers
  numbers-long = omega (arith, length-take m.count m.numbers, ap length l.numbers, l.long)

  slots-long : m.count ≤ length m.slots
  slots-long = omega (arith, length-take m.count m.slots, ap length l.slots, slots_of-length image (chain_of image n), l.long)

  -- The index bits may be cleared.
  pub index-inside : 512 * (v.iblb.0 + v.ibsz) ≤ length image
  index-inside = rw (laid.iblb, laid.ibsz) (index-fits g)

  pub index-numbers : HaveBits v.ibsz m.count m.numbers
  index-numbers = record {
    long = numbers-long;
    each = λ i h.
        rw (number_at i h, laid.ibsz)
        ((used-range image (member i) (used i h)).0, omega (arith, used-range image (member i) (used i h), numbers_fit image g));
  }

  -- The image a after that.
  module _ (a : List ℕ) (q : ℕ) (is : a ≡ put_map_bits image v.iblb.0 v.ibsz (index_bits (take m.count m.numbers)) 0) (qe : q ≡ map_blocks v.blocks) where
    a-is : a ≡ put_map_bits image (iblb image) (ibsz image) (index_bits (chain_of image n)) 0
    a-is = is ∙ rw (laid.iblb, laid.ibsz, l.numbers)

    q-is : q ≡ map_blocks (blocks image)
    q-is = qe ∙ ap map_blocks laid.blocks

    a-length : length a ≡ length image
    a-length = put-length image (iblb image) (ibsz image) (index-fits g) (index_bits (chain_of image n)) 0 a a-is

    -- A header reads the same.
    same : (k : ℕ) → 1 ≤ k → k ≤ slots image → block a (slot image k) ≡ header image k
    same k low high = ap (λ (b : List ℕ). block b (slot image k)) a-is ∙ header-index g (index_bits (chain_of image n)) 0 k low high

    -- The blocks of the headers may be freed.
    pub storage-inside : 512 * (v.base.0 + q) ≤ length a
    storage-inside = rw (based, q-is) (omega (arith, a-length, storage-fits g))

    freeable : (k : ℕ) → in_use image k ≡ true → 1 ≤ k → k ≤ slots image → Freeable a (base image) (map_blocks (blocks image)) (slot image k)
    unfolding fault_of map_blocks
    freeable k u low high = record {
      outside = (slot-clear image g k low high).storage;
      fits = rw (same k low high) (whole-fits (blocks image) k (header image k) (header-length g.opens k low high) (g.safe.whole k u));
      ends = rw (same k low high) (whole-ends k (4096 * map_blocks (blocks image)) (header image k) (blocks image) (g.safe.whole k u) (omega arith));
    }

    pub storage-headers : AllFreeable a v.base.0 q m.count m.slots
    storage-headers = record {
      long = slots-long;
      each = λ i h. rw (based, q-is, slot_at i h) (freeable (member i) (used i h) (has i h).0 (has i h).1);
    }

    -- The image b after that.
    module _ (b : List ℕ) (is' : b ≡ put_map_bits a v.base.0 q (flat (block a) (take m.count m.slots)) 1) where
      b-length : length b ≡ length image
      b-length = put-length a v.base.0 q storage-inside (flat (block a) (take m.count m.slots)) 1 b is' ∙ a-length

      -- The slots may be cleared.
      pub slots-inside : AllInside b m.count m.slots
      slots-inside = record {
        long = slots-long;
        each = λ i h. rw (slot_at i h) (omega (arith, b-length, g.opens.size, slot-below g.opens (member i) (has i h).0 (has i h).1));
      }

      -- With that the chain is deleted.
      pub chain-deleted : (z : List ℕ) → z ≡ clear_slots b (take m.count m.slots) → z ≡ without_numbers image (chain_of image n)
      chain-deleted z f =
          let low : (k : ℕ) → In k (chain_of image n) → 1 ≤ k = λ k i. omega (arith, delete-known d k i) in
          let all : flat (block a) (take m.count m.slots) ≡ flat (header image) (chain_of image n) =
          ap (flat (block a)) l.slots ∙ flat-slots image a (chain_of image n) (λ k i. same k (low k i) (delete-known d k i).1) in
          f
          ∙ ap₂ clear_slots (is' ∙ rw (all, based, q-is, a-is)) l.slots
          ∙ delete-commute d
