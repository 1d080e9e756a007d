-- The image of extend: what is written in it, and so what extend does to the volume.
use mathlib.Core.Path.{◌≡◌, refl, sym, ap, ap₂, ◌∙◌}
use mathlib.Core.Bool.{true, and-eq-true_iff}
use mathlib.Core.List.{List, [], ◌∷◌}
use Prim.Native.Nat.{ℕ, ◌+◌, ◌*◌, ◌-◌, ◌/◌, ◌≤◌, ◌<◌}
use native.Mathlib.Decide.{ℕ_discrete, dec_lt}
use native.Mathlib.Omega.{arith}
use borrow.Author.Tests.{eqb-true, leb-true, ltb-true}
use lib.Dec.{leb}
use lib.ListN.{length}
use Rattle.image.specs.Words.{Bytes}
use Rattle.image.specs.Blocks.{region, block}
use Rattle.image.specs.Bits.{bit_at, is_set}
use Rattle.lists.specs.Lists.{numbers_from}
use Rattle.lists.proofs.BelowLaws.{below_at}
use Rattle.image.proofs.BlockLaws.{block-bytes}
use Rattle.lists.proofs.FirstLaws.{first-has}
use Rattle.image.proofs.StoreLaws.{Keeps, keeps-trans, keeps-weaken}
use Rattle.header.specs.Fields.{m_efnu, m_use, m_max}
use Rattle.pointers.specs.Pointers.{blocks_of}
use Rattle.home.specs.Home.{blocks, position, home_index}
use Rattle.volume.specs.Volume.{ibsz, iblb, slot, slots, header, fault_of, in_use, index_map, map_blocks, base, storage_map}
use Rattle.volume.proofs.VolumeLaws.{slot-below, header-length, base-fits}
use Rattle.chains.specs.Chains.{chain_of, file_blocks}
use Rattle.pointers.specs.Pointers.{flat}
use Rattle.lists.specs.Counts.{count, In}
use Rattle.lists.proofs.CountLaws.{count-append, count_at, Found, count-find, count-numbers-in, count-numbers-out}
use Rattle.slots.proofs.SlotLaws.{used-range}
use Rattle.sound.specs.Sound.{BlockOf}
use Rattle.sound.proofs.MemberLaws.{in-here, in_tail}
use Rattle.sound.proofs.ChainLaws.{known-file, member-used}
use Rattle.header_edit.specs.Extended.{extended_header}
use Rattle.header_edit.proofs.ExtendedLaws.{Extends, extends-is}
use Rattle.lowest_run.specs.Runs.{is_free, is_run, starts, lowest_start}
use Rattle.image.specs.Stores.{put_map_bits}
use Rattle.update.specs.Writes.{taken_bit}
use Rattle.update.specs.Extend.{is_count, has_room, run_start, has_run, with_blocks}
use Rattle.update.proofs.Effects.{Usable, Written, Stays, Extended}
use Rattle.update.proofs.ChainSame.{chain-links}
use Rattle.update.proofs.FrameLaws.{slot-clear, maps-apart, blocks-same, home_index-same, ibsz-same, iblb-same, fmax-same, slots_same, slot_same, base_same, header-same}
use Rattle.image.proofs.WriteLaws.{keeps-region, put_block-block, put_block-keeps, put_block-region, put_block-bytes, put_map_bits-keeps, put_map_bits-length, put_map_bits-bytes, put_map_bits-bit, put_map_bits-rest}
use Rattle.update.proofs.SameLaws.{used-same}

-- A count is 1 to 256.
pub count-range : (c : ℕ) → is_count c ≡ true → (1 ≤ c) × (c ≤ 256)
unfolding is_count
count-range c t =
    let r = (and-eq-true_iff (leb 1 c) _).0 t in
    (leb-true 1 c r.0, omega (arith, leb-true c _ r.1))

-- The run that is found lies on the volume, and its blocks are free.
module _ (image : List ℕ) (c : ℕ) (t : has_run image c ≡ true) where
  run-first : run_start image c < starts (blocks image) c
  unfolding has_run
  run-first = ltb-true (run_start image c) (starts (blocks image) c) t

  pub run_fits : run_start image c + c ≤ blocks image
  unfolding starts
  run_fits = omega (arith, run-first)

  pub run-has : (j : ℕ) → run_start image c ≤ j → j < run_start image c + c → bit_at (storage_map image) j ≡ 1
  unfolding run_start lowest_start is_run is_free is_set
  run-has j low high =
      let s = run_start image c in
      let map = storage_map image in
      let all = (first-has (is_run map c) 0 (starts (blocks image) c)).here (omega (arith, run-first)) in
      let e : s + (j - s) ≡ j = omega arith in
      ap (bit_at map) (sym e) ∙ eqb-true (bit_at map (s + (j - s))) 1 (below_at c (is_free map s) all (j - s) (omega arith))

-- Headers that cover more: what is covered stays covered.
flat-more : (hdr hdr' : ℕ → List ℕ) (j : ℕ) (l : List ℕ) → ((k : ℕ) → In k l → count j (blocks_of (hdr k)) ≤ count j (blocks_of (hdr' k)))
    → count j (flat hdr l) ≤ count j (flat hdr' l)
unfolding flat
flat-more hdr hdr' j [] more = omega arith
flat-more hdr hdr' j (n ∷ l) more =
    omega (
      arith,
      count-append j (blocks_of (hdr n)) (flat hdr l),
      count-append j (blocks_of (hdr' n)) (flat hdr' l),
      more n (in-here n l),
      flat-more hdr hdr' j l (λ k m. more k (in_tail k n l m)),
    )

-- On a usable image, the header of number n, which is in use, has room for a pointer, and the c blocks from LBN s on are free.
pub record Extending (image : List ℕ) (n s c : ℕ) : Type 0 where
  pub usable : Usable image
  pub low : 6 ≤ n
  pub used : in_use image n ≡ true
  pub apart : In n (chain_of image 1) → ⊥
  pub room : has_room (header image n) ≡ true
  pub counted : is_count c ≡ true
  pub fits : s + c ≤ blocks image
  pub free : (j : ℕ) → s ≤ j → j < s + c → bit_at (storage_map image) j ≡ 1

module _ {image : List ℕ} {n s c : ℕ} (x : Extending image n s c) where
  abbrev h : List ℕ
  h = extended_header (header image n) s c

  -- The image with the bits of the run, and with the header too.
  abbrev a : List ℕ
  a = put_map_bits image (base image) (map_blocks (blocks image)) (numbers_from s c) taken_bit

  abbrev z : List ℕ
  z = with_blocks image n s c

  has : n ≤ slots image
  has = x.usable.safe.slotted n x.used

  -- The new header is the old one with the pointer more.
  pub extends : Extends (blocks image) n s c (header image n) h
  unfolding header fault_of has_room
  extends =
      extends-is (blocks image) n s c (header image n) (header-length x.usable.opens n (omega (arith, x.low)) has)
      (block-bytes image (slot image n) x.usable.bytes) (x.usable.safe.whole n x.used)
      (leb-true (m_use (header image n) + 2) (m_max (header image n)) x.room)
      (count-range c x.counted).0 (count-range c x.counted).1 x.fits x.usable.opens.most

  in-run : (j : ℕ) → In j (numbers_from s c) → (s ≤ j) × (j < s + c)
  in-run j m = go (dec_lt j s) (dec_lt j (s + c))
    where
      go : Dec (j < s) → Dec (j < s + c) → (s ≤ j) × (j < s + c)
      go (yes l) d = absurd (omega (arith, count-numbers-out s c j (λ low high. omega arith)))
      go (no l) (no r) = absurd (omega (arith, count-numbers-out s c j (λ low high. r high)))
      go (no l) (yes r) = (omega arith, r)

  small : (j : ℕ) → j < s + c → j < 4096 * map_blocks (blocks image)
  unfolding map_blocks
  small j l = omega (arith, x.fits)

  map-room : 512 * (base image + map_blocks (blocks image)) ≤ length image
  map-room = omega (arith, x.usable.opens.size, base-fits x.usable.opens)

  a-bytes : Bytes a
  a-bytes =
      put_map_bits-bytes image (base image) (map_blocks (blocks image)) (numbers_from s c) taken_bit map-room (omega arith) x.usable.bytes
      (λ j m. small j (in-run j m).1)

  slot-room : 512 * (slot image n + 1) ≤ length a
  slot-room =
      omega (
        arith,
        x.usable.opens.size,
        slot-below x.usable.opens n (omega (arith, x.low)) has,
        put_map_bits-length image (base image) (map_blocks (blocks image)) (numbers_from s c) taken_bit map-room,
      )

  a-keeps : Keeps (λ k. (j : ℕ) → s ≤ j → j < s + c → k ≡ base image + j / 4096 → ⊥) image a
  a-keeps =
      keeps-weaken (λ k out j m. out j (in-run j m).0 (in-run j m).1)
      (put_map_bits-keeps image (base image) (map_blocks (blocks image)) (numbers_from s c) taken_bit map-room)

  z-keeps : Keeps (λ k. k ≡ slot image n → ⊥) a z
  unfolding with_blocks
  z-keeps = put_block-keeps a (slot image n) h extends.long slot-room

  -- Every block but the slot and those of the run's bits stays.
  pub extend-keeps : Keeps (λ k. (k ≡ slot image n → ⊥) × ((j : ℕ) → s ≤ j → j < s + c → k ≡ base image + j / 4096 → ⊥)) image z
  extend-keeps = keeps-trans (keeps-weaken (λ k out. out.1) a-keeps) (keeps-weaken (λ k out. out.0) z-keeps)

  pub extend-others : (k : ℕ) → (k ≡ slot image n → ⊥) → ((j : ℕ) → s ≤ j → j < s + c → k ≡ base image + j / 4096 → ⊥) → block z k ≡ block image k
  extend-others k out off = extend-keeps.same k (out, off)

  pub extend-length : length z ≡ length image
  extend-length = extend-keeps.len

  pub extend-bytes : Bytes z
  unfolding with_blocks
  extend-bytes = put_block-bytes a (slot image n) h extends.long slot-room a-bytes extends.bytes

  pub extend-written : Written image z (λ k. k ≡ n)
  extend-written = record {
    usable = x.usable;
    known = λ k e. rw e (x.low, has);
    apart = λ k e m. x.apart (rw e at m);
    keeps = keeps-weaken (λ k clear. (clear.slots n refl, λ j low high e. clear.storage (omega arith) (omega (arith, small j high)))) extend-keeps;
  }

  -- The index map stays.
  index_same : index_map z ≡ index_map image
  unfolding index_map
  index_same =
      ap₂ (region z) (iblb-same extend-written) (ibsz-same extend-written)
      ∙ keeps-region extend-keeps (iblb image) (ibsz image)
      (λ i low high. (
        λ e. (slot-clear image x.usable n (omega (arith, x.low)) has).index (omega arith) (omega arith),
        λ j l r e. maps-apart image x.usable i (omega arith) (omega (arith, small j r)) low high,
      ))

  extend-used : (k : ℕ) → in_use z k ≡ in_use image k
  extend-used k = used-same image z (fmax-same extend-written) k (λ l high. ap (λ (m : List ℕ). bit_at m (k - 1)) index_same)

  pub extend-stays : Stays image z
  extend-stays k m = extend-used k

  pub extend-header : header z n ≡ h
  unfolding header with_blocks
  extend-header = rw (slot_same extend-written extend-stays n) (put_block-block a (slot image n) h extends.long slot-room)

  -- The storage map: the bits of the run are clear, and every other stays.
  storage-at : storage_map z ≡ region a (base image) (map_blocks (blocks image))
  unfolding storage_map with_blocks
  storage-at =
      ap₂ (λ (b m : ℕ). region z b (map_blocks m)) (base_same extend-written extend-stays) (blocks-same extend-written)
      ∙ put_block-region a (slot image n) h extends.long slot-room (base image) (map_blocks (blocks image))
      (slot-clear image x.usable n (omega (arith, x.low)) has).storage

  bit-clear : (j : ℕ) → s ≤ j → j < s + c → bit_at (storage_map z) j ≡ 0
  bit-clear j low high =
      rw storage-at
      (put_map_bits-bit image (base image) (map_blocks (blocks image)) (numbers_from s c) taken_bit map-room (omega arith) x.usable.bytes
      (λ i m. small i (in-run i m).1) j (omega (arith, count-numbers-in s c j low high)))

  bit-other : (j : ℕ) → (s ≤ j → j < s + c → ⊥) → bit_at (storage_map z) j ≡ bit_at (storage_map image) j
  unfolding storage_map
  bit-other j out =
      ap (λ (m : List ℕ). bit_at m j) storage-at
      ∙ put_map_bits-rest image (base image) (map_blocks (blocks image)) (numbers_from s c) taken_bit map-room (omega arith) x.usable.bytes
      (λ i m. small i (in-run i m).1) j (count-numbers-out s c j out)

  -- Each header in use links as before, and covers at least what it did. So does file 3, and with it the home positions passed over.
  other : (k : ℕ) → in_use image k ≡ true → (k ≡ n → ⊥) → header z k ≡ header image k
  other k u = header-same extend-written extend-stays k (used-range image k u).0 (x.usable.safe.slotted k u)

  links : (k : ℕ) → in_use image k ≡ true → m_efnu (header z k) ≡ m_efnu (header image k)
  links k u = go (ℕ_discrete k n)
    where
      go : Dec (k ≡ n) → m_efnu (header z k) ≡ m_efnu (header image k)
      go (yes e) = rw (e, extend-header) extends.efnu
      go (no ne) = ap m_efnu (other k u ne)

  covers : (k j : ℕ) → in_use image k ≡ true → count j (blocks_of (header image k)) ≤ count j (blocks_of (header z k))
  covers k j u = go (ℕ_discrete k n)
    where
      go : Dec (k ≡ n) → count j (blocks_of (header image k)) ≤ count j (blocks_of (header z k))
      go (yes e) = rw (e, extend-header, extends.more) (omega (arith, count-append j (blocks_of (header image n)) (numbers_from s c)))
      go (no ne) = rw (other k u ne) (omega arith)

  passed : (i : ℕ) → i < home_index image → BlockOf z 3 (position i)
  unfolding file_blocks chain_of
  passed i l =
      let safe = x.usable.safe in
      let used = member-used image safe 3 (known-file image safe 3 (omega arith) (omega arith)) in
      let b = safe.passed i l in
      let chain = chain-links (header image) (header z) 256 3 (λ k m. links k (used k m)) in
      let more = flat-more (header image) (header z) (position i) (chain_of image 3) (λ k m. covers k (position i) (used k m)) in
      let was = rw b.here at (count_at (file_blocks image 3) b.place b.inside) in
      let f : Found (position i) (file_blocks z 3) = count-find (position i) (file_blocks z 3) (rw chain (omega (arith, was, more))) in
      record { place = f.at; inside = f.inside; here = f.here }

  pub extend-effect : Extended image z n s c
  unfolding fault_of
  extend-effect =
      let w = extend-written in
      record {
        fixed = record { blocks = blocks-same w; fmax = fmax-same w; slots = slots_same w extend-stays; passed = λ i l. passed i (rw (home_index-same w) at l) };
        old = x.used;
        used = extend-used;
        headers = other;
        whole = rw (blocks-same w, extend-header) extends.whole;
        more = rw extend-header extends.more;
        efnu = rw extend-header extends.efnu;
        efsq = rw extend-header extends.efsq;
        fseq = rw extend-header extends.fseq;
        seg = rw extend-header extends.seg;
        fits = x.fits;
        was = x.free;
        now = bit-clear;
        rest = λ j l out. bit-other j out;
      }
