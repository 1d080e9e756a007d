-- What every writer leaves: the home, the index file, every other header and every other file. It rests on no block being covered twice: what a
-- writer writes is covered by header 1 and by header 2, each at places of its own.
use mathlib.Core.Path.{◌≡◌, refl, sym, ap, ◌∙◌}
use mathlib.Core.Bool.{true}
use mathlib.Core.List.{List}
use Prim.Native.Nat.{ℕ, ◌+◌, ◌*◌, ◌-◌, ◌/◌, ◌≤◌, ◌<◌}
use native.Mathlib.Omega.{arith}
use lib.ListN.{length, get_or}
use Rattle.image.specs.Blocks.{block}
use Rattle.lists.proofs.FirstLaws.{Is, first-has, first-is}
use Rattle.pointers.specs.Pointers.{blocks_of}
use Rattle.home.specs.Home.{is_home, blocks, position, positions, home_at, home_index, home}
use Rattle.header.specs.Fields.{m_efnu}
use Rattle.volume.specs.Volume.{ibsz, iblb, fmax, index_header, places, index, index_ends, padded, slot, slots, header, in_use, map_blocks, base, volume_of, places_of}
use Rattle.volume.specs.Volume.{map_blocks}
use Rattle.volume.proofs.IndexSame.{AllKept, places_same, index_kept, ends-kept}
use Rattle.volume.proofs.VolumeLaws.{Opens, index-file, slot-first, slots-least, storage-size, storage-base}
use Rattle.chains.proofs.IndexFile.{file-index, index-long, index-slots}
use Rattle.chains.specs.Chains.{chain_of, file_blocks}
use Rattle.pointers.specs.Pointers.{flat}
use Rattle.lists.specs.Counts.{In}
use Rattle.lists.proofs.CountLaws.{count-find, count_at}
use Rattle.slots.proofs.SlotLaws.{used-range}
use Rattle.sound.specs.Sound.{BlockOf}
use Rattle.sound.specs.Claims.{IsFile}
use Rattle.sound.proofs.ChainLaws.{known-file, chain_next, member-used}
use Rattle.sound.proofs.ApartLaws.{file-different, file-storage}
use Rattle.update.proofs.Effects.{Clear, Usable, Written, Stays, KeptFile, Fixed}
use Rattle.update.proofs.ChainSame.{chain_same, flat-same}

-- No number.
abbrev pub None : ℕ → Type 0
None n = ⊥

-- Where things lie on a usable image.
module _ (image : List ℕ) (g : Usable image) where
  -- Block p, from 0, of file f is j.
  abbrev pub Lies : ℕ → ℕ → ℕ → Type 0
  Lies f p j = (p < length (file_blocks image f)) × (get_or (file_blocks image f) p 0 ≡ j)

  -- Each block of the index file, of the slots and of the two maps is a block of file 1 or 2.
  index-lies : (p : ℕ) → p < length (index image) → Lies 1 p (get_or (index image) p 0)
  index-lies p h = rw (file-index image g.opens) (h, refl)

  slot-lies : (n : ℕ) → 1 ≤ n → n ≤ slots image → Lies 1 (1 + ibsz image + n) (slot image n)
  unfolding slot slots
  slot-lies n a b = index-lies (1 + ibsz image + n) (omega arith)

  home-lies : Lies 1 1 (home image)
  home-lies = rw (index-file g.opens).homed at (index-lies 1 (omega (arith, (index-file g.opens).long)))

  index_map-lies : (k : ℕ) → iblb image ≤ k → k < iblb image + ibsz image → Lies 1 (2 + (k - iblb image)) k
  index_map-lies k lo hi =
      let e : get_or (index image) (2 + (k - iblb image)) 0 ≡ k = (index-file g.opens).row (k - iblb image) (omega arith) ∙ omega arith in
      rw e at (index-lies (2 + (k - iblb image)) (omega (arith, (index-file g.opens).long)))

  storage-lies : (k : ℕ) → base image ≤ k → k < base image + map_blocks (blocks image) → Lies 2 (1 + (k - base image)) k
  storage-lies k lo hi =
      rw (file-storage image g.opens)
      (omega (arith, storage-size g.opens), storage-base g.opens (k - base image) (omega arith) ∙ omega arith)

  -- A block is one block of one file.
  once : (f p m q j : ℕ) → IsFile image f → IsFile image m → Lies f p j → Lies m q j → (f ≡ m) × (p ≡ q)
  once f p m q j ff fm x y = file-different image g.safe f m p q ff fm x.0 y.0 (x.1 ∙ sym y.1)

  one : IsFile image 1
  one = known-file image g.safe 1 (omega arith) (omega arith)

  two : IsFile image 2
  two = known-file image g.safe 2 (omega arith) (omega arith)

  -- A file's block is clear, unless it is one of the places that are written.
  pub covered-clear : (S : ℕ → Type 0) → ((n : ℕ) → S n → (6 ≤ n) × (n ≤ slots image)) → (a p j : ℕ) → IsFile image a → Lies a p j
      → ((n : ℕ) → S n → a ≡ 1 → p ≡ 1 + ibsz image + n → ⊥) → (a ≡ 1 → 2 ≤ p → p < 2 + ibsz image → ⊥) → (a ≡ 2 → 1 ≤ p → ⊥) → Clear image S j
  covered-clear S known a p j file c no_slot no_index no-storage = record {
    slots = λ n sn e.
        let q = once a p 1 (1 + ibsz image + n) j file one c (rw (← e) at (slot-lies n (omega (arith, (known n sn).0)) (known n sn).1)) in
        no_slot n sn q.0 q.1;
    index = λ lo hi.
        let q = once a p 1 (2 + (j - iblb image)) j file one c (index_map-lies j lo hi) in
        no_index q.0 (omega (arith, q.1)) (omega (arith, q.1));
    storage = λ lo hi.
        let q = once a p 2 (1 + (j - base image)) j file two c (storage-lies j lo hi) in
        no-storage q.0 (omega (arith, q.1));
  }

  -- A slot is no block of a map, two slots are two blocks, and the maps have no block in common.
  pub slot-clear : (n : ℕ) → 1 ≤ n → n ≤ slots image → Clear image None (slot image n)
  slot-clear n a b =
      covered-clear None (λ k z. absurd z) 1 (1 + ibsz image + n) (slot image n) one (slot-lies n a b) (λ k z. absurd z) (λ e p q. omega arith) (λ e p. omega arith)

  pub slot-inj : (n k : ℕ) → 1 ≤ n → n ≤ slots image → 1 ≤ k → k ≤ slots image → slot image n ≡ slot image k → n ≡ k
  slot-inj n k a b c d e =
      let q = once 1 (1 + ibsz image + n) 1 (1 + ibsz image + k) (slot image k) one one (rw e at (slot-lies n a b)) (slot-lies k c d) in
      omega (arith, q.1)

  pub maps-apart : (k : ℕ) → base image ≤ k → k < base image + map_blocks (blocks image) → iblb image ≤ k → k < iblb image + ibsz image → ⊥
  maps-apart k lo hi lo' hi' =
      let q = once 2 (1 + (k - base image)) 1 (2 + (k - iblb image)) k two one (storage-lies k lo hi) (index_map-lies k lo' hi') in
      omega (arith, q.0)

  -- The index map has a bit for every number.
  pub numbers_fit : fmax image ≤ 4096 * ibsz image
  unfolding map_blocks
  numbers_fit = omega (arith, g.opens.maps)

  -- The headers of the index file are in use, and so is each number that one of them leads on to.
  pub index_number : (j : ℕ) → j < length (places image) → In (get_or (chain_of image 1) j 0) (chain_of image 1)
  index_number j l = count_at (chain_of image 1) j (omega (arith, index-long image g.opens))

  pub index-place : (j : ℕ) → j < length (places image) → slot image (get_or (chain_of image 1) j 0) ≡ get_or (places image) j 0
  index-place = index-slots image g.opens

  pub index-next : (x : ℕ) → In x (chain_of image 1) → (m_efnu (header image x) ≡ 0 → ⊥) → In (m_efnu (header image x)) (chain_of image 1)
  unfolding chain_of
  index-next x m ne = chain_next image g.safe g.bytes 256 1 x one.used (omega arith) m ne

-- What every writer leaves.
module _ {image image' : List ℕ} {S : ℕ → Type 0} (w : Written image image' S) where
  abbrev g : Usable image
  g = w.usable

  abbrev o : Opens image
  o = w.usable.opens

  -- A covered block that is not one of the places that are written.
  untouched : (a p j : ℕ) → IsFile image a → Lies image g a p j → ((n : ℕ) → S n → a ≡ 1 → p ≡ 1 + ibsz image + n → ⊥) → (a ≡ 1 → 2 ≤ p → p < 2 + ibsz image → ⊥)
      → (a ≡ 2 → 1 ≤ p → ⊥) → block image' j ≡ block image j
  untouched a p j file c x y z = w.keeps.same j (covered-clear image g S w.known a p j file c x y z)

  -- Every block of a file above 2.
  file-kept : (f : ℕ) → 3 ≤ f → IsFile image f → (j : ℕ) → In j (file_blocks image f) → block image' j ≡ block image j
  file-kept f big file j m =
      let r = count-find j (file_blocks image f) m in
      untouched f r.at j file (r.inside, r.here) (λ n sn e p. omega arith) (λ e p q. omega arith) (λ e p. omega arith)

  -- The home, and the positions passed over before it: they are blocks of file 3.
  pub blocks-same : blocks image' ≡ blocks image
  unfolding blocks
  blocks-same = ap (λ (n : ℕ). n / 512) w.keeps.len

  home-kept : block image' (home image) ≡ block image (home image)
  home-kept =
      untouched 1 1 (home image) (one image g) (home-lies image g) (λ n sn e p. omega (arith, (w.known n sn).0)) (λ e p q. omega arith) (λ e p. omega arith)

  passed-kept : (i : ℕ) → i < home_index image → block image' (position i) ≡ block image (position i)
  passed-kept i h =
      let b = g.safe.passed i h in
      file-kept 3 (omega arith) (known-file image g.safe 3 (omega arith) (omega arith)) (position i)
      (rw b.here at (count_at (file_blocks image 3) b.place b.inside))

  pub home_index-same : home_index image' ≡ home_index image
  unfolding home_index home_at home
  home_index-same =
      rw blocks-same
      (first-is (home_at image') 0 (positions (blocks image)) (home_index image)
      (record {
        low = omega arith;
        high = was.high;
        before = λ i a b. ap is_home (passed-kept i b) ∙ was.before i a b;
        here = λ h. ap is_home home-kept ∙ was.here h;
      }))
    where
      was : Is (home_at image) 0 (positions (blocks image)) (home_index image)
      was = first-has (home_at image) 0 (positions (blocks image))

  pub home_same : home image' ≡ home image
  unfolding home
  home_same = ap position home_index-same

  home-block : block image' (home image') ≡ block image (home image)
  home-block = ap (block image') home_same ∙ home-kept

  pub ibsz-same : ibsz image' ≡ ibsz image
  unfolding ibsz
  ibsz-same = rw home-block

  pub iblb-same : iblb image' ≡ iblb image
  unfolding iblb
  iblb-same = rw home-block

  pub fmax-same : fmax image' ≡ fmax image
  unfolding fmax
  fmax-same = rw home-block

  -- The header in a slot that is not written; header 1 among them, and so the index file.
  slot_kept : (k : ℕ) → 1 ≤ k → k ≤ slots image → (S k → ⊥) → block image' (slot image k) ≡ block image (slot image k)
  slot_kept k a b out =
      untouched 1 (1 + ibsz image + k) (slot image k) (one image g) (slot-lies image g k a b)
      (λ n sn e p. out (let q : k ≡ n = omega arith in rw q sn)) (λ e p q. omega arith) (λ e p. omega arith)

  known_out : (k : ℕ) → k ≤ 5 → S k → ⊥
  known_out k h s = omega (arith, (w.known k s).0)

  -- The index map is read at the same place of the image; what it says of the index file's own numbers the writer shows.
  module _ (stays : Stays image image') where
    -- Each header of the index file is kept.
    headers-kept : AllKept image image' blocks-same ibsz-same (places image)
    unfolding header
    headers-kept j l =
        let x = get_or (chain_of image 1) j 0 in
        let m = index_number image g j l in
        let u = member-used image g.safe 1 (one image g) x m in
        let e = index-place image g j l in
        let kept = slot_kept x (used-range image x u).0 (g.safe.slotted x u) (λ s. w.apart x s m) in
        rw (← e) (record { bytes = kept; used = λ ne. stays _ (index-next image g x m ne) })

    pub places-after : places image' ≡ places image
    places-after = places_same image image' blocks-same ibsz-same iblb-same headers-kept o.index-ends

    pub index_same : index image' ≡ index image
    index_same = index_kept image image' blocks-same ibsz-same iblb-same headers-kept o.index-ends

    index_header-same : index_header image' ≡ index_header image
    unfolding index_header
    index_header-same =
        let e : slot image 1 ≡ iblb image + ibsz image = slot-first o 1 (omega arith) (omega arith) ∙ omega arith in
        rw (iblb-same, ibsz-same, ← e) (slot_kept 1 (omega arith) (omega (arith, slots-least o)) (known_out 1 (omega arith)))

    ends_same : index_ends image' ≡ true
    ends_same = ends-kept image image' blocks-same ibsz-same iblb-same headers-kept o.index-ends

    pub slots_same : slots image' ≡ slots image
    unfolding slots
    slots_same = rw (index_same, ibsz-same)

    pub slot_same : (n : ℕ) → slot image' n ≡ slot image n
    unfolding slot
    slot_same n = rw (index_same, ibsz-same)

    pub header-same : (k : ℕ) → 1 ≤ k → k ≤ slots image → (S k → ⊥) → header image' k ≡ header image k
    unfolding header
    header-same k a b out = ap (block image') (slot_same k) ∙ slot_kept k a b out

    known_same : (k : ℕ) → 1 ≤ k → k ≤ 5 → header image' k ≡ header image k
    known_same k a b = header-same k a (omega (arith, slots-least o)) (known_out k b)

    pub base_same : base image' ≡ base image
    unfolding base
    base_same = rw (known_same 2 (omega arith) (omega arith))

    pub volume-same : volume_of image' ≡ volume_of image
    unfolding volume_of
    volume-same = λ i. record {
      blocks = blocks-same i;
      home = record { 0 = home_same i };
      ibsz = ibsz-same i;
      iblb = record { 0 = iblb-same i };
      fmax = fmax-same i;
      base = record { 0 = base_same i };
      segments = length (places-after i);
    }

    pub record_same : places_of image' ≡ places_of image
    unfolding places_of
    record_same = ap padded places-after

    -- The storage map's first block.
    control-kept : block image' (get_or (blocks_of (header image 2)) 0 0) ≡ block image (get_or (blocks_of (header image 2)) 0 0)
    control-kept =
        untouched 2 0 (get_or (blocks_of (header image 2)) 0 0) (two image g)
        (rw (file-storage image o) (omega (arith, storage-size o), refl))
        (λ n sn e. omega arith) (λ e. omega arith) (λ e p. omega arith)

    -- No writer changes how the volume opens.
    pub opens-after : Opens image'
    opens-after = record {
      size = rw blocks-same (w.keeps.len ∙ o.size);
      least = rw blocks-same o.least;
      most = rw blocks-same o.most;
      found = rw (home_index-same, blocks-same) o.found;
      enough = rw fmax-same o.enough;
      maps = rw (ibsz-same, fmax-same) o.maps;
      fits = rw (iblb-same, ibsz-same, blocks-same) o.fits;
      index-header = rw (index_header-same, blocks-same) o.index-header;
      index-first = rw (home_same, iblb-same, ibsz-same, index_header-same) o.index-first;
      index-ends = ends_same;
      storage-header = rw (blocks-same, header2) o.storage-header;
      shape = rw (blocks-same, header2) o.shape;
      control = rw (blocks-same, header2, control-kept) o.control;
    }
      where
        header2 : header image' 2 ≡ header image 2
        header2 = known_same 2 (omega arith) (omega arith)

    -- A file none of whose headers is written keeps its chain, its blocks and their bytes.
    pub kept : (f : ℕ) → 3 ≤ f → IsFile image f → ((x : ℕ) → In x (chain_of image f) → S x → ⊥) → KeptFile image image' f
    unfolding chain_of file_blocks
    kept f big file out = record {
      headers = same;
      chain = chain;
      blocks = ap (flat (header image')) chain ∙ flat-same (header image) (header image') (chain_of image f) same;
      bytes = file-kept f big file;
    }
      where
        same : (x : ℕ) → In x (chain_of image f) → header image' x ≡ header image x
        same x m =
            let u : in_use image x ≡ true = member-used image g.safe f file x m in
            header-same x (used-range image x u).0 (g.safe.slotted x u) (out x m)

        chain : chain_of image' f ≡ chain_of image f
        chain = chain_same (header image) (header image') 256 f same

    -- So does file 3, and with it the home positions passed over.
    pub fixed-after : ((x : ℕ) → In x (chain_of image 3) → S x → ⊥) → Fixed image image'
    fixed-after out = record {
      blocks = blocks-same;
      fmax = fmax-same;
      slots = slots_same;
      passed = λ i h. passed i (rw home_index-same at h);
    }
      where
        three : KeptFile image image' 3
        three = kept 3 (omega arith) (known-file image g.safe 3 (omega arith) (omega arith)) out

        passed : (i : ℕ) → i < home_index image → BlockOf image' 3 (position i)
        passed i h =
            let b = g.safe.passed i h in
            record { place = b.place; inside = rw three.blocks b.inside; here = rw three.blocks b.here }
