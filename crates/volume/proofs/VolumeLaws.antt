-- What an image that opens is known to have.
use Rattle.std.specs.Prelude.{Ok, Some, None}
use Rattle.std.specs.Result.{result_ok}
use mathlib.Core.Path.{◌≡◌, refl, sym, ap, ◌∙◌}
use mathlib.Core.Bool.{Bool, true, ◌&&◌, and-eq-true_iff}
use mathlib.Core.List.{List, ◌++◌}
use Prim.Native.Nat.{ℕ, zero, suc, ◌+◌, ◌*◌, ◌-◌, ◌≤◌, ◌<◌}
use native.Mathlib.Decide.{dec_lt}
use native.Mathlib.Omega.{arith}
use borrow.Author.Tests.{eqb-true, leb-true, ltb-true, eq-eqb, le-leb, lt-leb, lt-ltb}
use lib.Dec.{eqb, leb}
use lib.ListN.{length, get_or, take, length-append, get_or-append}
use lib.Seq.{get_or-take}
use Rattle.image.specs.Words.{byte_at, Bytes}
use Rattle.image.specs.Blocks.{block}
use Rattle.lists.specs.First.{below}
use Rattle.lists.proofs.BelowLaws.{below_at, below_all}
use Rattle.image.proofs.WordLaws.{word_below}
use Rattle.image.proofs.BlockLaws.{region-length, block-length, block-bytes}
use Rattle.answer.specs.declared.refusal.Refusal.TheVariants as refusal
use Rattle.answer.proofs.OutcomeLaws.{passed-last, passed_first}
use Rattle.header.specs.Fields.{h_fseq, segment, m_efnu}
use Rattle.pointers.specs.Pointers.{Fits, blocks_of, place_in}
use Rattle.whole.specs.Whole.{fault}
use Rattle.pointers.proofs.PointerLaws.{place_at, place-past}
use Rattle.whole.proofs.WholeLaws.{whole-fits, whole-inside}
use Rattle.home.specs.Home.{h_fmax, blocks, positions, home_index, home}
use Rattle.volume.specs.Volume.{ibsz, iblb, fmax, index_header, places, index, index_ends, places_of, slot, slots, has_slot, slot_of, header, index_map, map_blocks, base, storage_map, volume_of}
use Rattle.volume.specs.declared.Volume.{Volume}
use Rattle.volume.specs.Opening.{sized, homed, geometry, heads, alone, index_lbn, index_at, index_mapped, indexed, storage_mapped, stored, open_volume, HasIndexMap, FirstFit, Recorded, Laid}
use Rattle.volume.specs.Volume.{map_blocks}
use Rattle.volume.proofs.IndexLaws.{AllLie, lies-fits, mapped-inside, places-lie, places-most, further, index-split, index-most, padded-take, padded-length}
use Rattle.volume.proofs.OpeningLaws.{open-passed, three, sized-is, geometry-is, home-inside, index_lbn-boot, index_lbn-home, index_lbn-row, storage-long, storage-row}

-- A header that heads a file: whole, of its number and sequence, segment 0.
pub record Heads (total n : ℕ) (h : List ℕ) : Type 0 where
  pub whole : fault total n h ≡ 0
  pub sequence : h_fseq h ≡ n
  pub first : segment h ≡ 0

-- A header that stands alone: it has no extension either.
pub record Alone (total n : ℕ) (h : List ℕ) : Type 0 where
  pub whole : fault total n h ≡ 0
  pub sequence : h_fseq h ≡ n
  pub first : segment h ≡ 0
  pub last : m_efnu h ≡ 0

-- The LBNs that the index file begins with.
pub record Index (home iblb m : ℕ) (lbns : List ℕ) : Type 0 where
  pub long : m + 18 ≤ length lbns
  pub boot : get_or lbns 0 0 ≡ 0
  pub homed : get_or lbns 1 0 ≡ home
  pub row : (i : ℕ) → i < m + 16 → get_or lbns (2 + i) 0 ≡ iblb + i

-- The image opens.
pub record Opens (image : List ℕ) : Type 0 where
  pub size : length image ≡ 512 * blocks image
  pub least : 100 ≤ blocks image
  pub most : blocks image ≤ 1044480
  pub found : home_index image < positions (blocks image)
  pub enough : 16 ≤ fmax image
  pub maps : ibsz image ≡ map_blocks (fmax image)
  pub fits : iblb image + ibsz image + 16 ≤ blocks image
  pub index-header : Heads (blocks image) 1 (index_header image)
  pub index-first : Index (home image) (iblb image) (ibsz image) (blocks_of (index_header image))
  pub index-ends : index_ends image ≡ true
  pub storage-header : Alone (blocks image) 2 (header image 2)
  pub shape : storage_mapped (map_blocks (blocks image)) (header image 2) ≡ true
  pub control : byte_at (block image (get_or (blocks_of (header image 2)) 0 0)) 3 ≡ map_blocks (blocks image)

pub heads-gives : (total n : ℕ) (h : List ℕ) → heads total n h ≡ true → Heads total n h
unfolding heads
heads-gives total n h t =
    let r = three (eqb (fault total n h) 0) (eqb (h_fseq h) n) (eqb (segment h) 0) t in
    record {
      whole = eqb-true (fault total n h) 0 r.0;
      sequence = eqb-true (h_fseq h) n r.1;
      first = eqb-true (segment h) 0 r.2;
    }

pub heads-holds : (total n : ℕ) (h : List ℕ) → Heads total n h → heads total n h ≡ true
unfolding heads
heads-holds total n h a = rw (eq-eqb (fault total n h) 0 a.whole, eq-eqb (h_fseq h) n a.sequence, eq-eqb (segment h) 0 a.first)

pub alone-gives : (total n : ℕ) (h : List ℕ) → alone total n h ≡ true → Alone total n h
unfolding alone
alone-gives total n h t =
    let s = (and-eq-true_iff (heads total n h) (eqb (m_efnu h) 0)).0 t in
    let r = heads-gives total n h s.0 in
    record {
      whole = r.whole;
      sequence = r.sequence;
      first = r.first;
      last = eqb-true (m_efnu h) 0 s.1;
    }

pub alone-holds : (total n : ℕ) (h : List ℕ) → Alone total n h → alone total n h ≡ true
unfolding alone
alone-holds total n h a =
    rw (heads-holds total n h (record { whole = a.whole; sequence = a.sequence; first = a.first })) (eq-eqb (m_efnu h) 0 a.last)

pub index_gives : (home iblb m : ℕ) (lbns : List ℕ) → index_mapped home iblb m lbns ≡ true → Index home iblb m lbns
unfolding index_mapped index_at
index_gives home iblb m lbns t =
    let s = (and-eq-true_iff (leb (m + 18) (length lbns)) (below (m + 18) (index_at home iblb lbns))).0 t in
    let at : (i : ℕ) → i < m + 18 → get_or lbns i 0 ≡ index_lbn home iblb i =
    λ i l. eqb-true (get_or lbns i 0) (index_lbn home iblb i) (below_at (m + 18) (index_at home iblb lbns) s.1 i l) in
    record {
      long = leb-true (m + 18) (length lbns) s.0;
      boot = at 0 (omega arith) ∙ index_lbn-boot home iblb;
      homed = at 1 (omega arith) ∙ index_lbn-home home iblb;
      row = λ i l. at (2 + i) (omega arith) ∙ index_lbn-row home iblb (2 + i) (omega arith) ∙ omega arith;
    }

pub index-holds : (home iblb m : ℕ) (lbns : List ℕ) → Index home iblb m lbns → index_mapped home iblb m lbns ≡ true
unfolding index_mapped index_at
index-holds home iblb m lbns f =
    rw (le-leb (m + 18) (length lbns) f.long)
    (below_all (m + 18) (index_at home iblb lbns) (λ i l. eq-eqb (get_or lbns i 0) (index_lbn home iblb i) (at i l)))
  where
    at : (i : ℕ) → i < m + 18 → get_or lbns i 0 ≡ index_lbn home iblb i
    at zero l = f.boot ∙ sym (index_lbn-boot home iblb)
    at (suc zero) l = f.homed ∙ sym (index_lbn-home home iblb)
    at (suc (suc i)) l =
        let e : suc (suc i) ≡ 2 + i = omega arith in
        rw e (f.row i (omega arith) ∙ omega (arith, index_lbn-row home iblb (2 + i) (omega arith)))

-- Header 1 and header 2 as the tests have them.
pub indexed-gives : (image : List ℕ) → indexed image ≡ true
    → Heads (blocks image) 1 (index_header image) × Index (home image) (iblb image) (ibsz image) (blocks_of (index_header image)) × (index_ends image ≡ true)
unfolding indexed
indexed-gives image t =
    let b = blocks_of (index_header image) in
    let r = three (heads (blocks image) 1 (index_header image)) (index_mapped (home image) (iblb image) (ibsz image) b) (index_ends image) t in
    (heads-gives (blocks image) 1 (index_header image) r.0, index_gives (home image) (iblb image) (ibsz image) b r.1, r.2)

-- The index file begins with what its first segment maps.
pub index-longer : (home iblb m : ℕ) (a b : List ℕ) → Index home iblb m a → Index home iblb m (a ++ b)
index-longer home iblb m a b f = record {
  long = omega (arith, f.long, length-append a b);
  boot = get_or-append a b 0 0 (omega (arith, f.long)) ∙ f.boot;
  homed = get_or-append a b 0 1 (omega (arith, f.long)) ∙ f.homed;
  row = λ i l. get_or-append a b 0 (2 + i) (omega (arith, f.long)) ∙ f.row i l;
}

pub index-whole : (image : List ℕ) → Index (home image) (iblb image) (ibsz image) (blocks_of (index_header image)) → Index (home image) (iblb image) (ibsz image) (index image)
index-whole image f = rw (index-split image) (index-longer (home image) (iblb image) (ibsz image) (blocks_of (index_header image)) (further image) f)

pub stored-gives : (image : List ℕ) → stored image ≡ true
    → Alone (blocks image) 2 (header image 2)
    × (storage_mapped (map_blocks (blocks image)) (header image 2) ≡ true)
    × (byte_at (block image (get_or (blocks_of (header image 2)) 0 0)) 3 ≡ map_blocks (blocks image))
unfolding stored
stored-gives image t =
    let n = blocks image in
    let control = byte_at (block image (get_or (blocks_of (header image 2)) 0 0)) 3 in
    let r = three (alone n 2 (header image 2)) (storage_mapped (map_blocks n) (header image 2)) (eqb control (map_blocks n)) t in
    (alone-gives n 2 (header image 2) r.0, r.1, eqb-true control (map_blocks n) r.2)

pub opens : (image : List ℕ) → open_volume image ≡ Ok tt → Opens image
unfolding open_volume homed
opens image e =
    let s = passed_first (sized image) refusal.Size _ e in
    let h = passed_first (homed image) refusal.Home _ s.1 in
    let g = passed_first (geometry image) refusal.Geometry _ h.1 in
    let i = passed_first (indexed image) refusal.Index _ g.1 in
    let size = sized-is image s.0 in
    let lay = geometry-is image g.0 in
    let file = indexed-gives image i.0 in
    let map = stored-gives image (passed-last (stored image) refusal.Storage i.1) in
    record {
      size = size.0;
      least = size.1;
      most = size.2;
      found = ltb-true (home_index image) (positions (blocks image)) h.0;
      enough = lay.0;
      maps = lay.1;
      fits = lay.2;
      index-header = file.0;
      index-first = file.1;
      index-ends = file.2;
      storage-header = map.0;
      shape = map.1;
      control = map.2;
    }

-- An image that has all of that opens.
pub opens-all : (image : List ℕ) → Opens image → open_volume image ≡ Ok tt
unfolding sized homed geometry indexed stored
opens-all image o =
    let n = blocks image in
    open-passed image
    (rw (eq-eqb (length image) (512 * n) o.size, le-leb 100 n o.least, le-leb n 1044480 o.most))
    (lt-ltb (home_index image) (positions n) o.found)
    (rw (le-leb 16 (fmax image) o.enough, eq-eqb (ibsz image) (map_blocks (fmax image)) o.maps, le-leb (iblb image + ibsz image + 16) n o.fits))
    (rw (heads-holds n 1 (index_header image) o.index-header, index-holds (home image) (iblb image) (ibsz image) (blocks_of (index_header image)) o.index-first) o.index-ends)
    (rw (alone-holds n 2 (header image 2) o.storage-header, o.shape) (eq-eqb (byte_at (block image (get_or (blocks_of (header image 2)) 0 0)) 3) (map_blocks n) o.control))

-- The slots of the first sixteen numbers.
pub index-slot : (image : List ℕ) → Index (home image) (iblb image) (ibsz image) (index image) → (n : ℕ) → 1 ≤ n → n ≤ 16 → slot image n ≡ iblb image + ibsz image + (n - 1)
unfolding slot
index-slot image file n l h =
    ap (λ (i : ℕ). get_or (index image) i 0) (omega arith) ∙ file.row (ibsz image + (n - 1)) (omega arith) ∙ omega arith

-- What opening reads once the geometry is right.
module _ (image : List ℕ) (v : Volume) (l : Laid image v) where
  pub laid-room : sized image ≡ true → geometry image ≡ true → (v.iblb.0 + v.ibsz + 16 ≤ v.blocks) × (v.blocks ≤ 1044480)
  laid-room s g = (omega (arith, (geometry-is image g).2, l.iblb, l.ibsz, l.blocks), omega (arith, (sized-is image s).2, l.blocks))

  pub laid-length : sized image ≡ true → geometry image ≡ true → (k : ℕ) → k < v.iblb.0 + v.ibsz + 16 → length (block image k) ≡ 512
  laid-length s g k h = block-length image k (omega (arith, (sized-is image s).0, (laid-room s g).0, l.blocks))

  pub laid-header1 : block image (v.iblb.0 + v.ibsz) ≡ index_header image
  unfolding index_header
  laid-header1 = rw (l.iblb, l.ibsz)

  -- Header 1 is as it must be, but for the chain.
  abbrev pub begins : Bool
  begins = heads (blocks image) 1 (index_header image) && index_mapped (home image) (iblb image) (ibsz image) (blocks_of (index_header image))

  pub laid-begins : (heads v.blocks 1 (index_header image) && index_mapped v.home.0 v.iblb.0 v.ibsz (blocks_of (index_header image))) ≡ begins
  laid-begins = rw (l.blocks, l.home, l.iblb, l.ibsz)

  pub laid-indexed : (begins && index_ends image) ≡ indexed image
  unfolding indexed
  laid-indexed = refl

  pub laid-mapped : sized image ≡ true → geometry image ≡ true → HasIndexMap image
  unfolding map_blocks
  laid-mapped s g = (omega (arith, geometry-is image g), omega (arith, geometry-is image g, sized-is image s))

  pub laid-header2 : indexed image ≡ true → block image (v.iblb.0 + v.ibsz + 1) ≡ header image 2
  unfolding header
  laid-header2 t = ap (block image) (omega (arith, l.iblb, l.ibsz, index-slot image (index-whole image (indexed-gives image t).1) 2 (omega arith) (omega arith)))

  pub laid-stored : (alone v.blocks 2 (header image 2)
      && storage_mapped (map_blocks v.blocks) (header image 2)
      && eqb (byte_at (block image (get_or (blocks_of (header image 2)) 0 0)) 3) (map_blocks v.blocks)) ≡ stored image
  unfolding stored
  laid-stored = rw l.blocks

module _ {image : List ℕ} (o : Opens image) where
  pub home_below : home image < blocks image
  home_below = home-inside image o.least o.found

  pub index-file : Index (home image) (iblb image) (ibsz image) (index image)
  index-file = index-whole image o.index-first

  pub slot-first : (n : ℕ) → 1 ≤ n → n ≤ 16 → slot image n ≡ iblb image + ibsz image + (n - 1)
  slot-first = index-slot image index-file

  pub header-first : header image 1 ≡ index_header image
  unfolding header index_header
  header-first = ap (block image) (slot-first 1 (omega arith) (omega arith) ∙ omega arith)

  -- Every block of the index file, and so every slot, lies on the volume.
  pub headers-lie : AllLie image (places image)
  unfolding index_header
  headers-lie = places-lie image (record { number = 1; whole = o.index-header.whole; low = omega (arith, o.fits) })

  pub headers-fit : FirstFit image (places image) (length (places image))
  headers-fit j l = lies-fits image o.size (get_or (places image) j 0) (headers-lie j l)

  pub index_below : (i : ℕ) → i < length (index image) → get_or (index image) i 0 < blocks image
  unfolding index
  index_below = mapped-inside image (places image) headers-lie

  pub slot-below : (n : ℕ) → 1 ≤ n → n ≤ slots image → slot image n < blocks image
  unfolding slot slots
  slot-below n l h = index_below (1 + ibsz image + n) (omega (arith, index-file.long))

  pub header-length : (n : ℕ) → 1 ≤ n → n ≤ slots image → length (header image n) ≡ 512
  unfolding header
  header-length n l h = block-length image (slot image n) (omega (arith, o.size, slot-below n l h))

  -- At least sixteen numbers have a slot.
  pub slots-least : 16 ≤ slots image
  unfolding slots
  slots-least = omega (arith, index-file.long)

  pub index_header-length : length (index_header image) ≡ 512
  unfolding index_header
  index_header-length = block-length image (iblb image + ibsz image) (omega (arith, o.size, o.fits))

  pub index_header-fits : Fits (index_header image)
  index_header-fits = whole-fits (blocks image) 1 (index_header image) index_header-length o.index-header.whole

  pub header2-fits : Fits (header image 2)
  header2-fits = whole-fits (blocks image) 2 (header image 2) (header-length 2 (omega arith) (omega (arith, slots-least))) o.storage-header.whole

  -- The storage map: 1 + q blocks, of which the q with the bits stand in a row on the volume.
  pub storage-size : length (blocks_of (header image 2)) ≡ 1 + map_blocks (blocks image)
  storage-size = storage-long (map_blocks (blocks image)) (header image 2) o.shape

  pub storage-base : (i : ℕ) → i < map_blocks (blocks image) → get_or (blocks_of (header image 2)) (1 + i) 0 ≡ base image + i
  unfolding base
  storage-base = storage-row (map_blocks (blocks image)) (header image 2) o.shape

  pub base-fits : base image + map_blocks (blocks image) ≤ blocks image
  unfolding map_blocks
  base-fits =
      let q = map_blocks (blocks image) in
      omega (arith, o.least, storage-size, storage-base (q - 1) (omega (arith, o.least)), whole-inside (blocks image) 2 (header image 2) o.storage-header.whole (1 + (q - 1)) (omega (arith, storage-size)))

  pub storage_map-length : length (storage_map image) ≡ 512 * map_blocks (blocks image)
  unfolding storage_map
  storage_map-length = region-length image (base image) (map_blocks (blocks image)) (omega (arith, o.size, base-fits))

  pub opens-mapped : HasIndexMap image
  unfolding map_blocks
  opens-mapped = (omega (arith, o.maps), omega (arith, o.size, o.fits))

  pub index_map-length : length (index_map image) ≡ 512 * ibsz image
  unfolding index_map
  index_map-length = region-length image (iblb image) (ibsz image) (omega (arith, o.size, o.fits))

pub fmax-below : (image : List ℕ) → Bytes image → fmax image < 65536
unfolding fmax h_fmax
fmax-below image bytes = word_below (block image (home image)) (block-bytes image (home image) bytes) 6

-- What calls on an opened volume know of it.
pub says : (image : List ℕ) (v : Volume) → v ≡ volume_of image → Laid image v
unfolding volume_of
says image v e = record {
  blocks = ap (λ (v : Volume). v.blocks) e;
  home = ap (λ (v : Volume). v.home.0) e;
  ibsz = ap (λ (v : Volume). v.ibsz) e;
  iblb = ap (λ (v : Volume). v.iblb.0) e;
  fmax = ap (λ (v : Volume). v.fmax) e;
}

pub says-base : (image : List ℕ) (v : Volume) → v ≡ volume_of image → v.base.0 ≡ base image
unfolding volume_of
says-base image v e = ap (λ (v : Volume). v.base.0) e

pub says-segments : (image : List ℕ) (v : Volume) → v ≡ volume_of image → v.segments ≡ length (places image)
unfolding volume_of
says-segments image v e = ap (λ (v : Volume). v.segments) e

pub says_all : (image : List ℕ) (v : Volume) → Laid image v → v.base.0 ≡ base image → v.segments ≡ length (places image) → v ≡ volume_of image
unfolding volume_of
says_all image v s e f = λ i. record {
  blocks = s.blocks i;
  home = record { 0 = s.home i };
  ibsz = s.ibsz i;
  iblb = record { 0 = s.iblb i };
  fmax = s.fmax i;
  base = record { 0 = e i };
  segments = f i;
}

-- The first blocks of the index file and the first sixteen slots lie on the volume.
pub open_room : (image : List ℕ) (v : Volume) → open_volume image ≡ Ok tt → v ≡ volume_of image → v.iblb.0 + v.ibsz + 16 ≤ 1044480
open_room image v opened e =
    let s = says image v e in
    let o = opens image opened in
    omega (arith, s.iblb, s.ibsz, o.fits, o.most)

-- The index file has 256 headers at most.
pub segments_few : (image : List ℕ) (v : Volume) → v ≡ volume_of image → v.segments ≤ 256
segments_few image v e = omega (arith, says-segments image v e, places-most image)

-- Where the index file's headers lie, by the volume record.
module _ (image : List ℕ) (v : Volume) (at : List ℕ) (r : Recorded image v at) where
  pub segments-most : v.segments ≤ 256
  segments-most = segments_few image v r.1

  pub places-long : length at ≡ 256
  unfolding places_of
  places-long = rw r.2 (padded-length (places image) (places-most image))

  pub places-first : take v.segments at ≡ places image
  unfolding places_of
  places-first = rw r.2 (padded-take (places image) v.segments (sym (says-segments image v r.1)))

  pub place_read : (k : ℕ) → k < v.segments → (k < length (places image)) × (get_or at k 0 ≡ get_or (places image) k 0)
  place_read k l =
      (omega (arith, says-segments image v r.1), sym (get_or-take v.segments at k 0 l) ∙ ap (λ (ls : List ℕ). get_or ls k 0) places-first)

  pub places-fit : FirstFit image at v.segments
  places-fit j l = let here = place_read j l in rw here.1 (headers-fit (opens image r.0) j here.0)

-- The slot of a number by its place in the index file.
pub slot-place : (image : List ℕ) → Opens image → (n i : ℕ) → i ≡ 1 + ibsz image + n → result_ok (place_in (index image) i) ≡ slot_of image n
unfolding slot_of has_slot slots slot
slot-place image o n i e = go (dec_lt i (length (index image)))
  where
    go : Dec (i < length (index image)) → result_ok (place_in (index image) i) ≡ slot_of image n
    go (yes l) =
        rw (place_at (index image) i l, le-leb n (length (index image) - (2 + ibsz image)) (omega arith), e)
    go (no l) =
        rw (place-past (index image) i (omega arith), lt-leb n (length (index image) - (2 + ibsz image)) (omega (arith, (index-file o).long)))

-- 256 headers can cover 8,323,072 blocks, so no higher number has a slot.
pub slot-none : (image : List ℕ) → Bytes image → (n : ℕ) → 8323072 < n → slot_of image n ≡ None
unfolding slot_of has_slot slots
slot-none image bytes n l = rw (lt-leb n (slots image) (omega (arith, index-most image bytes)))

pub slot_some : (image : List ℕ) (n : ℕ) → has_slot image n ≡ true → slot_of image n ≡ Some (record { 0 = slot image n })
unfolding slot_of
slot_some image n has = rw has
