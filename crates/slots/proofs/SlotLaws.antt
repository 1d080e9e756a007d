-- Laws of a walk over the slots, and of what the headers in use give.
use mathlib.Core.Path.{◌≡◌, refl, sym, ap, ap₂, subst, ◌∙◌}
use mathlib.Core.Bool.{true, false, ◌&&◌, and-eq-true_iff}
use mathlib.Core.List.{List, [], ◌++◌, append-nil}
use Prim.Native.Nat.{ℕ, suc, ◌+◌, ◌*◌, ◌-◌, ◌/◌, ◌≤◌, ◌<◌}
use native.Mathlib.Numerals.{add-one}
use native.Mathlib.Decide.{dec_lt}
use native.Mathlib.Omega.{arith}
use borrow.Author.Tests.{leb-true, le-leb}
use lib.Dec.{eqb, leb}
use lib.ListN.{length, get_or, take, drop, length-append, get_or-append}
use lib.Seq.{get_or-append-add, take_all}
use Rattle.image.specs.Words.{Bytes, byte_at}
use Rattle.image.specs.Blocks.{region, block}
use Rattle.image.specs.Bits.{bit_at}
use Rattle.image.proofs.BlockLaws.{block-length}
use Rattle.pointers.specs.Pointers.{pointer_lbn, pointer_count, runs, pointers_at, pointers, blocks_of, InPointer}
use Rattle.pointers.proofs.PointerLaws.{runs_none, runs-length, in-pointer}
use Rattle.home.specs.Home.{blocks}
use Rattle.volume.specs.Volume.{ibsz, fmax, volume_of, index_header, places, index, slot, slots, header, index_map, in_use}
use Rattle.pointers.specs.Pointers.{flat}
use Rattle.volume.specs.declared.Volume.{Volume}
use Rattle.volume.specs.Volume.{map_blocks}
use Rattle.volume.specs.Opening.{Recorded}
use Rattle.volume.proofs.IndexLaws.{mapped-none, mapped-step, mapped-here, places-least, places-start, further, index-split}
use Rattle.volume.proofs.VolumeLaws.{Opens, index-file, headers-lie, headers-fit, opens, says, fmax-below, index_map-length, slot-below}
use Rattle.slots.specs.declared.SlotRun.{SlotRun}
use Rattle.slots.specs.Slots.{RunOf, blocks_before, Begins, Stands, gathered}

-- What is left of a pointer.
pub run-spot : (h : List ℕ) (i p : ℕ) (run : SlotRun) → InPointer h i run.lbn.0 run.left p → RunOf (blocks_of h) i run
run-spot h i p run s = record {
  has = λ j m. omega (arith, m, s.inside);
  row = s.row;
  none = λ z. absurd (omega (arith, z, s.some));
}

-- None are left past the last block.
pub run_none : (lbns : List ℕ) (i : ℕ) (run : SlotRun) → run.left ≡ 0 → length lbns ≤ i → RunOf lbns i run
run_none lbns i run z l = record { has = λ j s. absurd (omega arith); row = λ j s. absurd (omega arith); none = λ e. l }

-- A run in the blocks of one header, among those of several.
pub run-within : (p a q : List ℕ) (i : ℕ) (run : SlotRun) → RunOf a i run → 1 ≤ run.left → RunOf (p ++ (a ++ q)) (length p + i) run
run-within p a q i run r some = record {
  has = λ j s. omega (arith, r.has j s, length-append p (a ++ q), length-append a q);
  row = λ j s.
      let e : length p + i + j ≡ length p + (i + j) = omega arith in
      rw (e, get_or-append-add p (a ++ q) (i + j) 0) (get_or-append a q 0 (i + j) (r.has j s) ∙ r.row j s);
  none = λ z. absurd (omega arith);
}

-- The same of the first header.
pub run-first : (a q : List ℕ) (i : ℕ) (run : SlotRun) → RunOf a i run → 1 ≤ run.left → RunOf (a ++ q) i run
run-first a q i run r some = record {
  has = λ j s. omega (arith, r.has j s, length-append a q);
  row = λ j s. get_or-append a q 0 (i + j) (r.has j s) ∙ r.row j s;
  none = λ z. absurd (omega arith);
}

-- The slots are blocks of the index file in their order.
pub stands-run : (image : List ℕ) → Opens image → (n : ℕ) (run : SlotRun) → 1 ≤ run.left → RunOf (index image) (1 + ibsz image + n) run
    → run.segment < length (places image) → Begins image (n + run.left) run.segment (run.pointer + 1) → run.pointer < 128 → Stands image n run
unfolding slot slots
stands-run image o n run some r within next few = record {
  has = λ i s. omega (arith, r.has i s, (index-file o).long);
  row = λ i s. ap (λ (x : ℕ). get_or (index image) x 0) (omega arith) ∙ r.row i s;
  none = λ z. absurd (omega arith);
  within = λ s. within;
  done = λ z. absurd (omega arith);
  next = next;
  few = few;
}

-- A walk past the last slot.
pub stands-end : (image : List ℕ) (n : ℕ) (run : SlotRun) → run.left ≡ 0 → slots image < n → run.segment ≡ length (places image) → run.pointer < 128 → Stands image n run
stands-end image n run z l e few = record {
  has = λ i s. absurd (omega arith);
  row = λ i s. absurd (omega arith);
  none = λ q. l;
  within = λ s. absurd (omega arith);
  done = λ q. e;
  next = record {
    segment = omega arith;
    pointer = λ s. absurd (omega arith);
    before = λ s. absurd (omega arith);
    past = λ q. omega arith;
  };
  few = few;
}

-- A header of the index file has fewer than 128 pointers.
pub pointers-few : {image : List ℕ} → Opens image → (k : ℕ) → k < length (places image) → pointers (block image (get_or (places image) k 0)) < 128
unfolding pointers_at
pointers-few {image} o k l =
    omega (arith, headers-fit o k l, block-length image (get_or (places image) k 0) (omega (arith, o.size, (headers-lie o k l).low)))

-- The slots of the first sixteen numbers are blocks of header 1.
pub stands-first : (image : List ℕ) → Opens image → (n : ℕ) (run : SlotRun) → n ≤ 16 → RunOf (blocks_of (index_header image)) (1 + ibsz image + n) run
    → (1 ≤ run.left → (run.segment ≡ 0) × (run.pointer < pointers (index_header image))
    × (1 + ibsz image + n + run.left ≡ length (runs (index_header image) (pointers_at (index_header image)) (run.pointer + 1))))
    → Stands image n run
unfolding blocks_before index_header
stands-first image o n run low r pointer =
    let p = pointer some in
    stands-run image o n run some (rw (index-split image) (run-first (blocks_of (index_header image)) (further image) (1 + ibsz image + n) run r some))
    (omega (arith, p.0, places-least image))
    (rw p.0 (record {
      segment = omega arith;
      pointer = λ l. rw (places-start image) (omega (arith, p.1));
      before = λ l. rw (places-start image) (omega (arith, p.2, ap length (mapped-none image)));
      past = λ e. absurd (omega (arith, places-least image));
    }))
    (omega (arith, p.1, ap (λ (at : ℕ). pointers (block image at)) (places-start image), pointers-few o 0 (places-least image)))
  where
    some : 1 ≤ run.left
    some = go (dec_lt 0 run.left)
      where
        go : Dec (0 < run.left) → 1 ≤ run.left
        go (yes h) = h
        go (no h) = absurd (omega (arith, r.none (omega arith), o.index-first.long))

-- A walk that comes to a pointer.
module _ (image : List ℕ) (o : Opens image) (n k p : ℕ) (b : Begins image n k p) where
  abbrev pub h : List ℕ
  h = block image (get_or (places image) k 0)

  pub begins-run : k < length (places image) → p < pointers h → (l c : ℕ) → l ≡ pointer_lbn h (pointers_at h + 4 * p) → c ≡ pointer_count h (pointers_at h + 4 * p)
      → Stands image n (record { lbn = record { 0 = l }; left = c; segment = k; pointer = p })
  unfolding index blocks_of blocks_before pointer_count
  begins-run inside more l c first left =
      stands-run image o n _ some
      (rw (b.before inside, mapped-here image (places image) k inside)
      (run-within (flat (block image) (take k (places image))) (blocks_of h) (flat (block image) (drop (k + 1) (places image))) (length (runs h (pointers_at h) p)) _ here some))
      inside
      (record {
        segment = omega arith;
        pointer = λ q. omega arith;
        before = λ q. omega (arith, b.before inside, runs-length h (pointers_at h) p);
        past = λ e. absurd (omega arith);
      })
      (omega (arith, pointers-few o k inside))
    where
      some : 1 ≤ c
      some = omega (arith, left)

      here : RunOf (blocks_of h) (length (runs h (pointers_at h) p)) (record { lbn = record { 0 = l }; left = c; segment = k; pointer = p })
      here =
          let e : length (runs h (pointers_at h) p) ≡ length (runs h (pointers_at h) p) + 0 = omega arith in
          rw e (run-spot h _ p _ (in-pointer h p 0 l c more (omega arith) (omega (arith, first)) (omega (arith, left))))

  -- Past the last pointer of a header the next header begins, and past the last header there are no slots.
  pub begins-next : k < length (places image) → pointers h ≤ p → Begins image n (k + 1) 0
  unfolding blocks_before blocks_of slots index
  begins-next inside past =
      let e : p ≡ pointers h = omega (arith, b.pointer inside) in
      let next = block image (get_or (places image) (k + 1) 0) in
      let all : 1 + ibsz image + n ≡ length (flat (block image) (take (k + 1) (places image))) =
      omega (
        arith,
        b.before inside,
        ap (λ (q : ℕ). length (runs h (pointers_at h) q)) e,
        ap length (mapped-step image (places image) k inside),
        length-append (flat (block image) (take k (places image))) (blocks_of h),
      ) in
      record {
        segment = omega arith;
        pointer = λ l. omega arith;
        before = λ l. omega (arith, all, ap length (runs_none next (pointers_at next)));
        past = λ l. omega (arith, all, ap (λ (ls : List ℕ). length (flat (block image) ls)) (take_all (k + 1) (places image) (omega arith)), (index-file o).long);
      }

  pub begins-none : length (places image) ≤ k → Stands image n (record { lbn = record { 0 = 0 }; left = 0; segment = k; pointer = 0 })
  begins-none past =
      let e : k ≡ length (places image) = omega (arith, b.segment) in
      stands-end image n _ refl (b.past e) e (omega arith)

module _ (image : List ℕ) (n : ℕ) (run : SlotRun) (s : Stands image n run) where
  -- Where some are left, the first is the slot of n; where none are, n has no slot.
  pub stands_at : 1 ≤ run.left → (n ≤ slots image) × (slot image n ≡ run.lbn.0)
  stands_at l = (omega (arith, s.has 0 (omega arith)), ap (slot image) (omega arith) ∙ s.row 0 (omega arith) ∙ omega arith)

  pub stands-header : 1 ≤ run.left → block image run.lbn.0 ≡ header image n
  unfolding header
  stands-header l = ap (block image) (sym (stands_at l).1)

  pub stands_read : n ≤ slots image → block image run.lbn.0 ≡ header image n
  stands_read l = go (dec_lt 0 run.left)
    where
      go : Dec (0 < run.left) → block image run.lbn.0 ≡ header image n
      go (yes h) = stands-header h
      go (no h) = absurd (omega (arith, s.none (omega arith)))

  pub stands-none : run.left ≡ 0 → slots image < n
  stands-none = s.none

  -- The walk one number further on: inside a run, and past it.
  pub stands-next : 2 ≤ run.left → (l c : ℕ) → l ≡ run.lbn.0 + 1 → c ≡ run.left - 1
      → Stands image (n + 1) (record { lbn = record { 0 = l }; left = c; segment = run.segment; pointer = run.pointer })
  stands-next some l c e f =
      let g : n + 1 + c ≡ n + run.left = omega arith in
      record {
        has = λ i t. omega (arith, s.has (1 + i) (omega arith));
        row = λ i t. ap (slot image) (omega arith) ∙ s.row (1 + i) (omega arith) ∙ omega arith;
        none = λ z. absurd (omega arith);
        within = λ t. s.within (omega arith);
        done = λ z. absurd (omega arith);
        next = rw g s.next;
        few = s.few;
      }

  pub stands-last : run.left < 2 → Begins image (n + 1) run.segment (run.pointer + 1)
  stands-last l = go (dec_lt 0 run.left)
    where
      go : Dec (0 < run.left) → Begins image (n + 1) run.segment (run.pointer + 1)
      go (yes h) = subst (λ (c : ℕ). Begins image (n + c) run.segment (run.pointer + 1)) (omega arith) s.next
      go (no h) = record {
        segment = s.next.segment;
        pointer = s.next.pointer;
        before = λ t. absurd (omega (arith, s.done (omega arith)));
        past = λ e. omega (arith, s.none (omega arith));
      }

  pub stands-below : Opens image → 1 ≤ n → 1 ≤ run.left → run.lbn.0 < blocks image
  stands-below o low l = omega (arith, slot-below o n low (stands_at l).0, (stands_at l).1)

  pub stands-room : Opens image → 2 ≤ run.left → run.lbn.0 + 1 < blocks image
  stands-room o l = omega (arith, slot-below o (n + 1) (omega arith) (s.has 1 (omega arith)), s.row 1 (omega arith))

-- What the headers in use give, one number after the other.
module _ (image : List ℕ) (give : List ℕ → List ℕ) where
  pub gathered_none : gathered image give 0 ≡ []
  unfolding gathered
  gathered_none = refl

  pub gathered-used : (n : ℕ) → in_use image (n + 1) ≡ true → gathered image give (n + 1) ≡ gathered image give n ++ give (header image (n + 1))
  unfolding gathered
  gathered-used n u =
      let v : in_use image (suc n) ≡ true = rw (← add-one n) u in
      rw (add-one n, v)

  pub gathered-unused : (n : ℕ) → in_use image (n + 1) ≡ false → gathered image give (n + 1) ≡ gathered image give n
  unfolding gathered
  gathered-unused n u =
      let v : in_use image (suc n) ≡ false = rw (← add-one n) u in
      rw (add-one n, v) (append-nil (gathered image give n))

-- Which numbers are in use.
module _ (image : List ℕ) (n : ℕ) where
  pub in-use-bit : 1 ≤ n → n ≤ fmax image → in_use image n ≡ eqb (bit_at (index_map image) (n - 1)) 1
  unfolding in_use
  in-use-bit l h = rw (le-leb 1 n l, le-leb n (fmax image) h)

  pub used-range : in_use image n ≡ true → (1 ≤ n) × (n ≤ fmax image)
  unfolding in_use
  used-range u =
      let r = (and-eq-true_iff (leb 1 n) (leb n (fmax image))).0 ((and-eq-true_iff (leb 1 n && leb n (fmax image)) (eqb (bit_at (index_map image) (n - 1)) 1)).0 u).0 in
      (leb-true 1 n r.0, leb-true n (fmax image) r.1)

  -- The index map has a bit for each number up to H.FMAX.
  pub bit-inside : Opens image → 1 ≤ n → n ≤ fmax image → (n - 1) / 8 < length (index_map image)
  unfolding map_blocks
  bit-inside o l h = omega (arith, index_map-length o, o.maps)

-- What a pass over the numbers of an opened volume reads: the region of the index map, and in it the bit of each number.
pub fmax_few : (image : List ℕ) (v : Volume) → v ≡ volume_of image → ((i : ℕ) → byte_at image i < 256) → v.fmax < 65536
fmax_few image v e bytes = omega (arith, (says image v e).fmax, fmax-below image (record { each = bytes }))

pub opened-fmax : (image : List ℕ) (v : Volume) {at : List ℕ} → Recorded image v at → Bytes image → (v.fmax ≡ fmax image) × (v.fmax < 65536)
opened-fmax image v o bytes = ((says image v o.1).fmax, fmax_few image v o.1 bytes.each)

module _ (image : List ℕ) (v : Volume) {at : List ℕ} (o : Recorded image v at) (map : List ℕ) (read : map ≡ region image v.iblb.0 v.ibsz) where
  map_read : map ≡ index_map image
  unfolding index_map
  map_read = let s = says image v o.1 in read ∙ ap₂ (region image) s.iblb s.ibsz

  module _ (n : ℕ) (low : 1 ≤ n) (high : n ≤ v.fmax) where
    inside : n ≤ fmax image
    inside = omega (arith, (says image v o.1).fmax)

    pub read-inside : (n - 1) / 8 < length map
    read-inside = rw map_read (bit-inside image n (opens image o.0) low inside)

    pub read-used : (bit : ℕ) → bit ≡ bit_at map (n - 1) → eqb bit 1 ≡ in_use image n
    read-used bit e = rw (in-use-bit image n low inside, ← map_read, e)
