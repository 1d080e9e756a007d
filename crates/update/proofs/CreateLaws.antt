-- The image of create: what is written in it, and so what create does to the volume.
use mathlib.Core.Path.{◌≡◌, refl, sym, ap, ap₂, ◌∙◌}
use mathlib.Core.Bool.{true, false, false≢true}
use mathlib.Core.Logic.{inl, inr}
use mathlib.Core.List.{List, [], ◌∷◌}
use Prim.Native.Nat.{ℕ, ◌+◌, ◌*◌, ◌-◌, ◌/◌, ◌≤◌, ◌<◌}
use native.Mathlib.Omega.{arith}
use borrow.Author.Tests.{eq-eqb}
use lib.ListN.{length}
use Rattle.image.specs.Words.{Bytes}
use Rattle.image.specs.Blocks.{region, block}
use Rattle.image.specs.Bits.{bit_at}
use Rattle.image.proofs.StoreLaws.{Keeps, keeps-trans, keeps-weaken}
use Rattle.home.specs.Home.{blocks}
use Rattle.volume.specs.Volume.{ibsz, iblb, fmax, slot, slots, header, fault_of, in_use, index_map, map_blocks, base, storage_map}
use Rattle.volume.proofs.VolumeLaws.{slot-below}
use Rattle.chains.specs.Chains.{chain_of}
use Rattle.lists.specs.Counts.{In}
use Rattle.lists.proofs.CountLaws.{count_none, count-skip}
use Rattle.slots.proofs.SlotLaws.{in-use-bit, used-range}
use Rattle.sound.proofs.MemberLaws.{in-cases, in-here}
use Rattle.sound.proofs.ChainLaws.{known-file, member-used}
use Rattle.fresh_header.proofs.FreshLaws.{Fresh}
use Rattle.image.specs.Stores.{put_block}
use Rattle.update.specs.Writes.{used_bit}
use Rattle.update.specs.Create.{index_bit, with_number}
use Rattle.update.proofs.Effects.{Usable, Written, Stays, Created}
use Rattle.update.proofs.FrameLaws.{slot-clear, maps-apart, numbers_fit, blocks-same, ibsz-same, iblb-same, fmax-same, slot_same, base_same, header-same, fixed-after}
use Rattle.image.proofs.WriteLaws.{keeps-region, put_block-block, put_block-keeps, put_block-region, put_block-length, put_block-bytes, put_map_bits-keeps, put_map_bits-bytes, put_map_bits-bit, put_map_bits-rest}
use Rattle.update.proofs.SameLaws.{used-same}

-- On a usable image, number n has a slot and is not in use, and h is a fresh header of that number with sequence q.
pub record Creating (image : List ℕ) (n q : ℕ) (h : List ℕ) : Type 0 where
  pub usable : Usable image
  pub low : 6 ≤ n
  pub has : n ≤ slots image
  pub high : n ≤ fmax image
  pub was : in_use image n ≡ false
  pub fresh : Fresh (blocks image) n q h

module _ {image : List ℕ} {n q : ℕ} {h : List ℕ} (c : Creating image n q h) where
  -- The image with the header, and with the index bit too.
  abbrev a : List ℕ
  a = put_block image (slot image n) h

  abbrev z : List ℕ
  z = with_number image n h

  room : 512 * (slot image n + 1) ≤ length image
  room = omega (arith, c.usable.opens.size, slot-below c.usable.opens n (omega (arith, c.low)) c.has)

  map-room : 512 * (iblb image + ibsz image) ≤ length a
  map-room = omega (arith, c.usable.opens.size, c.usable.opens.fits, put_block-length image (slot image n) h c.fresh.long room)

  a-bytes : Bytes a
  a-bytes = put_block-bytes image (slot image n) h c.fresh.long room c.usable.bytes c.fresh.bytes

  only : (j : ℕ) → In j (index_bit n ∷ []) → j ≡ index_bit n
  only j m = elim (in-cases j (index_bit n) [] m) [ inl e ↦ e | inr i ↦ absurd (omega (arith, count_none j)) ]

  below : index_bit n < 4096 * ibsz image
  unfolding index_bit
  below = omega (arith, c.low, c.high, numbers_fit image c.usable)

  small : (j : ℕ) → In j (index_bit n ∷ []) → j < 4096 * ibsz image
  small j m = omega (arith, only j m, below)

  z-keeps : Keeps (λ i. i ≡ iblb image + index_bit n / 4096 → ⊥) a z
  unfolding with_number
  z-keeps =
      keeps-weaken (λ i ne j m e. ne (e ∙ ap (λ (b : ℕ). iblb image + b / 4096) (only j m)))
      (put_map_bits-keeps a (iblb image) (ibsz image) (index_bit n ∷ []) used_bit map-room)

  -- Every block but the slot and that of the index bit stays.
  pub create-keeps : Keeps (λ k. (k ≡ slot image n → ⊥) × (k ≡ iblb image + index_bit n / 4096 → ⊥)) image z
  create-keeps =
      keeps-trans
      (keeps-weaken (λ k out. out.0) (put_block-keeps image (slot image n) h c.fresh.long room))
      (keeps-weaken (λ k out. out.1) z-keeps)

  pub create-others : (k : ℕ) → (k ≡ slot image n → ⊥) → (k ≡ iblb image + index_bit n / 4096 → ⊥) → block z k ≡ block image k
  create-others k out off = create-keeps.same k (out, off)

  pub create-length : length z ≡ length image
  create-length = create-keeps.len

  pub create-bytes : Bytes z
  unfolding with_number
  create-bytes = put_map_bits-bytes a (iblb image) (ibsz image) (index_bit n ∷ []) used_bit map-room (omega arith) a-bytes small

  -- A number in use is another, the index file's among them.
  used-apart : (k : ℕ) → in_use image k ≡ true → k ≡ n → ⊥
  used-apart k u e = false≢true (sym c.was ∙ ap (in_use image) (sym e) ∙ u)

  index-unused : (k : ℕ) → In k (chain_of image 1) → k ≡ n → ⊥
  index-unused k m =
      let s = c.usable.safe in
      used-apart k (member-used image s 1 (known-file image s 1 (omega arith) (omega arith)) k m)

  pub create-written : Written image z (λ k. k ≡ n)
  create-written = record {
    usable = c.usable;
    known = λ k e. rw e (c.low, c.has);
    apart = λ k e m. index-unused k m e;
    keeps = keeps-weaken (λ k clear. (clear.slots n refl, λ e. clear.index (omega arith) (omega (arith, below)))) create-keeps;
  }

  -- The index map: the bit of n is set, and every other stays.
  index_at : index_map z ≡ region z (iblb image) (ibsz image)
  unfolding index_map
  index_at = ap₂ (region z) (iblb-same create-written) (ibsz-same create-written)

  index-before : region a (iblb image) (ibsz image) ≡ index_map image
  unfolding index_map
  index-before =
      put_block-region image (slot image n) h c.fresh.long room (iblb image) (ibsz image)
      (slot-clear image c.usable n (omega (arith, c.low)) c.has).index

  bit-set : bit_at (index_map z) (n - 1) ≡ 1
  unfolding with_number index_bit
  bit-set =
      rw index_at
      (put_map_bits-bit a (iblb image) (ibsz image) (index_bit n ∷ []) used_bit map-room (omega arith) a-bytes small (n - 1) (in-here (index_bit n) []))

  bit-other : (k : ℕ) → 1 ≤ k → (k ≡ n → ⊥) → bit_at (index_map z) (k - 1) ≡ bit_at (index_map image) (k - 1)
  unfolding with_number index_bit
  bit-other k l ne =
      rw (index_at, ← index-before)
      (put_map_bits-rest a (iblb image) (ibsz image) (index_bit n ∷ []) used_bit map-room (omega arith) a-bytes small (k - 1)
      (count-skip (k - 1) (n - 1) [] (λ e. ne (omega (arith, c.low))) ∙ count_none (k - 1)))

  create-used : (k : ℕ) → (k ≡ n → ⊥) → in_use z k ≡ in_use image k
  create-used k ne = used-same image z (fmax-same create-written) k (λ l high. bit-other k l ne)

  pub create-stays : Stays image z
  create-stays k m = create-used k (index-unused k m)

  pub create-header : header z n ≡ h
  unfolding header
  create-header =
      rw (slot_same create-written create-stays n)
      (z-keeps.same (slot image n) (λ e. (slot-clear image c.usable n (omega (arith, c.low)) c.has).index (omega arith) (omega (arith, below)))
      ∙ put_block-block image (slot image n) h c.fresh.long room)

  create-is : in_use z n ≡ true
  create-is = in-use-bit z n (omega (arith, c.low)) (omega (arith, c.high, fmax-same create-written)) ∙ eq-eqb (bit_at (index_map z) (n - 1)) 1 bit-set

  -- The storage map stays.
  storage-same : storage_map z ≡ storage_map image
  unfolding storage_map
  storage-same =
      ap₂ (λ (b m : ℕ). region z b (map_blocks m)) (base_same create-written create-stays) (blocks-same create-written)
      ∙ keeps-region create-keeps (base image) (map_blocks (blocks image))
      (λ i low high. (
        λ e. (slot-clear image c.usable n (omega (arith, c.low)) c.has).storage (omega arith) (omega arith),
        λ e. maps-apart image c.usable i low high (omega arith) (omega (arith, below)),
      ))

  pub create-effect : Created image z n
  unfolding fault_of
  create-effect =
      let w = create-written in
      let s = c.usable.safe in
      record {
        fixed = fixed-after w create-stays (λ x m. used-apart x (member-used image s 3 (known-file image s 3 (omega arith) (omega arith)) x m));
        low = c.low;
        has = c.has;
        was = c.was;
        is = create-is;
        others = create-used;
        headers = λ k u. header-same w create-stays k (used-range image k u).0 (s.slotted k u) (used-apart k u);
        whole = rw (blocks-same w, create-header) c.fresh.whole;
        empty = rw create-header c.fresh.empty;
        unlinked = rw create-header c.fresh.unlinked;
        first = rw create-header c.fresh.first;
        bits = λ j l. ap (λ (m : List ℕ). bit_at m j) storage-same;
      }
