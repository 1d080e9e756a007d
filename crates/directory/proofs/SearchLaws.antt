-- Laws of a search among the records of some blocks.
use mathlib.Core.Path.{◌≡◌, sym, ◌∙◌, refl}
use mathlib.Core.List.{List}
use Prim.Native.Nat.{ℕ, ◌+◌, ◌*◌, ◌-◌, ◌/◌, ◌%◌, min, ◌≤◌, ◌<◌}
use native.Mathlib.Decide.{dec_lt}
use native.Mathlib.Omega.{arith}
use lib.ListN.{length, get_or}
use Rattle.lists.specs.Lists.{numbers_from}
use Rattle.lists.proofs.NumbersLaws.{numbers_from-length, numbers_from-at}
use Rattle.lists.specs.First.{first}
use Rattle.lists.proofs.FirstLaws.{first-has, first-none, first_found, first_past, first-shift, first-same}
use Rattle.image.specs.Blocks.{region}
use Rattle.image.proofs.BlockLaws.{block-region}
use Rattle.pointers.specs.Pointers.{pointer_lbn, pointer_count, runs, pointers_at, pointers, blocks_of}
use Rattle.pointers.proofs.PointerLaws.{runs-length, runs-le, runs-at}
use Rattle.whole.proofs.WholeLaws.{whole_is}
use Rattle.records.specs.Records.{wanted_in}
use Rattle.records.proofs.RecordLaws.{record-block}
use Rattle.records.specs.declared.Wanted.{Wanted}
use Rattle.home.specs.Home.{blocks}
use Rattle.volume.specs.Volume.{header, fault_of}
use Rattle.volume.specs.declared.Volume.{Volume}
use Rattle.volume.proofs.VolumeLaws.{opens}
use Rattle.chains.specs.Chains.{file_blocks}
use Rattle.chains.proofs.ChainLaws.{Walk, walk_inside, walk_here}
use Rattle.chains.proofs.SizeLaws.{file-below}
use Rattle.directory.specs.Search.{entry_at, wanted_at, search_in, Inside, record_count, FileOpen}

-- The blocks of part stand in the list lbns from place k on.
pub record Part (lbns : List ℕ) (k : ℕ) (part : List ℕ) : Type 0 where
  pub inside : k + length part ≤ length lbns
  pub each : (i : ℕ) → i < length part → get_or lbns (k + i) 0 ≡ get_or part i 0

module _ (image lbns : List ℕ) (w : Wanted) (from to : ℕ) where
  -- A search ends between the two places.
  pub search-range : from ≤ to → (r : ℕ) → r ≡ search_in image lbns w from to → (r ≡ search_in image lbns w from to) × (from ≤ r) × (r ≤ to)
  unfolding search_in
  search-range h r e =
      let q = first-has (wanted_at image lbns w) from (min to (32 * length lbns) - from) in
      (e, omega (arith, e, q.low), omega (arith, e, q.high))

  -- Past the last record.
  pub search-none : min to (32 * length lbns) ≤ from → search_in image lbns w from to ≡ from
  unfolding search_in
  search-none h = first-none (wanted_at image lbns w) from (min to (32 * length lbns)) h

  -- All of the records are there.
  pub search-all : to ≤ 32 * length lbns → search_in image lbns w from to ≡ first (wanted_at image lbns w) from (to - from)
  unfolding search_in
  search-all h =
      let e : min to (32 * length lbns) ≡ to = omega arith in
      rw e

-- The blocks of a run.
module _ (image : List ℕ) (lbn count : ℕ) (w : Wanted) where
  run-record : (i : ℕ) → i < 32 * count → wanted_at image (numbers_from lbn count) w i ≡ wanted_in (region image lbn count) w i
  unfolding wanted_at entry_at wanted_in
  run-record i h =
      rw (numbers_from-at lbn count (i / 32) (omega arith), ← block-region image lbn count (i / 32) (omega arith), record-block (region image lbn count) i)

  pub search-run : (from to : ℕ) → search_in image (numbers_from lbn count) w from to ≡ first (wanted_in (region image lbn count) w) from (min to (32 * count) - from)
  unfolding search_in
  search-run from to =
      rw (numbers_from-length lbn count)
      (first-same (wanted_at image (numbers_from lbn count) w) (wanted_in (region image lbn count) w) from (min to (32 * count) - from) (λ i a b. run-record i (omega arith)))

-- The blocks of a pointer: they stand in the header's, and lie in the image.
pub pointer-part : (h : List ℕ) (at p n : ℕ) → p < n → Part (runs h at n) (length (runs h at p)) (numbers_from (pointer_lbn h (at + 4 * p)) (pointer_count h (at + 4 * p)))
pointer-part h at p n l = record {
  inside = omega (arith, numbers_from-length lbn count, runs-length h at p, runs-le h at (p + 1) n (omega arith));
  each = λ i m. let few : i < count = omega (arith, numbers_from-length lbn count) in runs-at h at p n i l few ∙ sym (numbers_from-at lbn count i few);
}
  where
    lbn : ℕ
    lbn = pointer_lbn h (at + 4 * p)

    count : ℕ
    count = pointer_count h (at + 4 * p)

pub pointer-inside : (image h : List ℕ) (at p : ℕ) → Inside image h → at ≡ pointers_at h → p < pointers h → 512 * (pointer_lbn h (at + 4 * p) + pointer_count h (at + 4 * p)) ≤ length image
unfolding blocks
pointer-inside image h at p inside e l = rw e (omega (arith, inside p l))

-- A header of a file's chain: its blocks stand in the file's, and lie in the image.
module _ (image : List ℕ) (n : ℕ) (h : List ℕ) (d : ℕ) (at : Walk image n h d) where
  pub walk-part : Part (file_blocks image n) d (blocks_of h)
  walk-part = record { inside = walk_inside image n h d at; each = walk_here image n h d at }

  pub walk-pointers : Inside image h
  unfolding fault_of
  walk-pointers = rw at.is at (whole_is (blocks image) at.number (header image at.number) at.whole).ends

-- A search that has come to a part of so many blocks, which begins at record start: it finds r in the part, counted from there.
pub record Turn (image lbns : List ℕ) (w : Wanted) (from to start size r : ℕ) : Type 0 where
  -- The record is found there, or what is searched ends there.
  pub here : r < 32 * size → search_in image lbns w from to ≡ start + r
  -- It is not, and the search goes on behind the part.
  pub on : 32 * size ≤ r → search_in image lbns w from to ≡ search_in image lbns w (start + r) to

module _ (image lbns : List ℕ) (k : ℕ) (part : List ℕ) (p : Part lbns k part) (w : Wanted) (from to start r : ℕ)
    (begins : start ≡ 32 * k) (reached : start ≤ from) (found : r ≡ search_in image part w (from - start) (to - start)) where
  -- A record of the part.
  wanted-part : (i : ℕ) → i < 32 * length part → wanted_at image lbns w (start + i) ≡ wanted_at image part w i
  unfolding wanted_at entry_at
  wanted-part i h =
      let q : (start + i) / 32 ≡ k + i / 32 = omega arith in
      let m : (start + i) % 32 ≡ i % 32 = omega arith in
      rw (q, m, p.each (i / 32) (omega arith))

  -- The records of the part, in the list.
  part-first : start + r ≡ first (wanted_at image lbns w) from (min to (start + 32 * length part) - from)
  unfolding search_in
  part-first =
      let d : min (to - start) (32 * length part) - (from - start) ≡ min to (start + 32 * length part) - from = omega arith in
      let e : start + (from - start) ≡ from = omega arith in
      rw (found, d, ← first-shift (wanted_at image part w) (wanted_at image lbns w) start (from - start) (min to (start + 32 * length part) - from) (λ i a b. wanted-part i (omega arith)), e)

  found_here : r < 32 * length part → search_in image lbns w from to ≡ start + r
  unfolding search_in
  found_here h = go (dec_lt (start + r) (min to (start + 32 * length part)))
    where
      go : Dec (start + r < min to (start + 32 * length part)) → first (wanted_at image lbns w) from (min to (32 * length lbns) - from) ≡ start + r
      go (yes l) =
          first_found (wanted_at image lbns w) from (min to (start + 32 * length part)) (min to (32 * length lbns)) (omega (arith, p.inside)) (omega (arith, part-first))
          ∙ sym part-first
      go (no l) =
          let e : min to (32 * length lbns) ≡ min to (start + 32 * length part) = omega (arith, p.inside) in
          rw e (sym part-first)

  goes_on : 32 * length part ≤ r → search_in image lbns w from to ≡ search_in image lbns w (start + r) to
  unfolding search_in
  goes_on h =
      rw part-first
      (first_past (wanted_at image lbns w) from (min to (start + 32 * length part)) (min to (32 * length lbns)) (omega (arith, p.inside)) (omega (arith, part-first)))

  pub search-turn : (size : ℕ) → length part ≡ size → Turn image lbns w from to start size r
  search-turn size e = record { here = λ h. found_here (omega arith); on = λ h. goes_on (omega arith) }

pub block_inside : (image : List ℕ) (v : Volume) (at : List ℕ) (n : ℕ) → FileOpen image v at n → (i : ℕ) → i < length (file_blocks image n) → 512 * get_or (file_blocks image n) i 0 + 512 ≤ length image
block_inside image v at n (o, first, good) i l = omega (arith, (opens image o.0).size, file-below image n first good i l)

-- The directory's records lie in its blocks.
pub records-count : (image : List ℕ) (n : ℕ) → record_count image n ≡ 32 * length (file_blocks image n)
unfolding record_count
records-count image n = refl

pub records-inside : (image : List ℕ) (n : ℕ) → record_count image n ≤ 32 * length (file_blocks image n)
records-inside image n = omega (arith, records-count image n)
