-- Laws of the tests of opening: what each gives where it is passed, and what opening answers at the first that is not.
use Rattle.std.specs.Prelude.{Ok, Err}
use mathlib.Core.Path.{◌≡◌, refl, sym, ap, ◌∙◌}
use mathlib.Core.Logic.{◌⊎◌, inl, inr}
use mathlib.Core.Bool.{Bool, true, false, ◌&&◌, ◌||◌, false≢true, and-eq-true_iff}
use mathlib.Core.List.{List}
use Prim.Native.Nat.{ℕ, ◌+◌, ◌*◌, ◌-◌, ◌≤◌, ◌<◌, min}
use native.Mathlib.Decide.{dec_lt}
use native.Mathlib.Omega.{arith}
use borrow.Author.Tests.{eqb-true, leb-true, ltb-true, eq-eqb, ne_eqb, le-leb, lt-leb}
use lib.Dec.{eqb, leb}
use lib.ListN.{length, get_or}
use Rattle.lists.specs.First.{below}
use Rattle.lists.proofs.BelowLaws.{below_at, below_all}
use Rattle.image.specs.Blocks.{block}
use Rattle.image.proofs.BlockLaws.{block-length}
use Rattle.answer.specs.declared.refusal.Refusal.TheVariants as refusal
use Rattle.answer.specs.Outcome.{unless, ◌then◌}
use Rattle.pointers.specs.Pointers.{pointer_lbn, pointer_count, runs, pointers_at, pointers, blocks_of}
use Rattle.pointers.proofs.PointerLaws.{runs_none, runs-length, runs-at}
use Rattle.home.specs.Home.{blocks, positions, home_index, home}
use Rattle.home.proofs.HomeLaws.{position-below}
use Rattle.volume.specs.Volume.{ibsz, iblb, fmax}
use Rattle.volume.specs.Opening.{sized, homed, geometry, index_lbn, index_at, index_mapped, indexed, storage_mapped, stored, open_volume}
use Rattle.volume.specs.Volume.{map_blocks}

-- Three tests in a row.
pub three : (a b c : Bool) → (a && b && c) ≡ true → (a ≡ true) × (b ≡ true) × (c ≡ true)
three a b c t =
    let s = (and-eq-true_iff (a && b) c).0 t in
    let r = (and-eq-true_iff a b).0 s.0 in
    (r.0, r.1, s.1)

-- Size and geometry as numbers.
module _ (image : List ℕ) where
  pub sized-is : sized image ≡ true → (length image ≡ 512 * blocks image) × (100 ≤ blocks image) × (blocks image ≤ 1044480)
  unfolding sized
  sized-is t =
      let n = blocks image in
      let r = three (eqb (length image) (512 * n)) (leb 100 n) (leb n 1044480) t in
      (eqb-true (length image) (512 * n) r.0, leb-true 100 n r.1, leb-true n 1044480 r.2)

  pub geometry-is : geometry image ≡ true → (16 ≤ fmax image) × (ibsz image ≡ map_blocks (fmax image)) × (iblb image + ibsz image + 16 ≤ blocks image)
  unfolding geometry
  geometry-is t =
      let r = three (leb 16 (fmax image)) (eqb (ibsz image) (map_blocks (fmax image))) (leb (iblb image + ibsz image + 16) (blocks image)) t in
      (leb-true 16 (fmax image) r.0, eqb-true (ibsz image) (map_blocks (fmax image)) r.1, leb-true (iblb image + ibsz image + 16) (blocks image) r.2)

  -- The home lies on the volume.
  pub home-inside : 100 ≤ blocks image → home_index image < positions (blocks image) → home image < blocks image
  unfolding home
  home-inside l h = position-below (blocks image) (home_index image) (omega arith) h

  pub home-length : sized image ≡ true → homed image ≡ true → length (block image (home image)) ≡ 512
  unfolding homed
  home-length s h =
      let n = sized-is s in
      block-length image (home image) (omega (arith, n.0, home-inside n.1 (ltb-true (home_index image) (positions (blocks image)) h)))

-- What opening answers, by the first test that is not met.
module _ (image : List ℕ) where
  pub open-size : sized image ≡ false → open_volume image ≡ Err refusal.Size
  unfolding open_volume unless ◌then◌
  open-size s = rw s

  module _ (s : sized image ≡ true) where
    pub open-home : homed image ≡ false → open_volume image ≡ Err refusal.Home
    unfolding open_volume unless ◌then◌
    open-home h = rw (s, h)

    module _ (h : homed image ≡ true) where
      pub open-geometry : geometry image ≡ false → open_volume image ≡ Err refusal.Geometry
      unfolding open_volume unless ◌then◌
      open-geometry g = rw (s, h, g)

      module _ (g : geometry image ≡ true) where
        pub open-index : indexed image ≡ false → open_volume image ≡ Err refusal.Index
        unfolding open_volume unless ◌then◌
        open-index i = rw (s, h, g, i)

        module _ (i : indexed image ≡ true) where
          pub open-storage : stored image ≡ false → open_volume image ≡ Err refusal.Storage
          unfolding open_volume unless ◌then◌
          open-storage t = rw (s, h, g, i, t)

          pub open-passed : stored image ≡ true → open_volume image ≡ Ok tt
          unfolding open_volume unless ◌then◌
          open-passed t = rw (s, h, g, i, t)

-- The LBNs that the index file begins with.
module _ (home iblb : ℕ) where
  pub index_lbn-boot : index_lbn home iblb 0 ≡ 0
  unfolding index_lbn
  index_lbn-boot = refl

  pub index_lbn-home : index_lbn home iblb 1 ≡ home
  unfolding index_lbn
  index_lbn-home = refl

  pub index_lbn-row : (i : ℕ) → 2 ≤ i → index_lbn home iblb i ≡ iblb + (i - 2)
  unfolding index_lbn
  index_lbn-row i l = rw (ne_eqb i 0 (omega arith), ne_eqb i 1 (omega arith))

-- From block 2 of the index file on, one block that fits a run decides for those after it.
pub run-rises : (home iblb lbn k c i : ℕ) → 2 ≤ k + i → lbn + i ≡ index_lbn home iblb (k + i)
    → below i (λ j. eqb (lbn + j) (index_lbn home iblb (k + j))) ≡ true → below c (λ j. eqb (lbn + j) (index_lbn home iblb (k + j))) ≡ true
run-rises home iblb lbn k c i row here before =
    below_all c (λ j. eqb (lbn + j) (index_lbn home iblb (k + j))) (λ j l. go j (dec_lt j i))
  where
    go : (j : ℕ) → Dec (j < i) → eqb (lbn + j) (index_lbn home iblb (k + j)) ≡ true
    go j (yes l) = below_at i (λ j. eqb (lbn + j) (index_lbn home iblb (k + j))) before j l
    go j (no l) =
        eq-eqb (lbn + j) (index_lbn home iblb (k + j))
        (omega (arith, here, index_lbn-row home iblb (k + i) row, index_lbn-row home iblb (k + j) (omega arith)))

-- A walk over the runs of an index file. The c blocks from place k on are those from an LBN on.
module _ (home iblb : ℕ) (lbns : List ℕ) (lbn k c : ℕ) (row : (i : ℕ) → i < c → get_or lbns (k + i) 0 ≡ lbn + i) where
  abbrev run_test : ℕ → Bool
  run_test i = eqb (lbn + i) (index_lbn home iblb (k + i))

  same_test : (i : ℕ) → i < c → index_at home iblb lbns (k + i) ≡ run_test i
  unfolding index_at
  same_test i l = ap (λ (x : ℕ). eqb x (index_lbn home iblb (k + i))) (row i l)

  -- They are the index file's as well, or they are not.
  pub index-more : below k (index_at home iblb lbns) ≡ true → below c (λ i. eqb (lbn + i) (index_lbn home iblb (k + i))) ≡ true → below (k + c) (index_at home iblb lbns) ≡ true
  index-more before run = below_all (k + c) (index_at home iblb lbns) (λ j l. go j l (dec_lt j k))
    where
      go : (j : ℕ) → j < k + c → Dec (j < k) → index_at home iblb lbns j ≡ true
      go j l (yes s) = below_at k (index_at home iblb lbns) before j s
      go j l (no s) =
          let e : j ≡ k + (j - k) = omega arith in
          rw e (same_test (j - k) (omega arith) ∙ below_at c run_test run (j - k) (omega arith))

  pub index-off : (n : ℕ) → k + c ≤ n → below c (λ i. eqb (lbn + i) (index_lbn home iblb (k + i))) ≡ false → below n (index_at home iblb lbns) ≡ false
  index-off n l run = go (below n (index_at home iblb lbns)) refl
    where
      go : (b : Bool) → below n (index_at home iblb lbns) ≡ b → below n (index_at home iblb lbns) ≡ false
      go false e = e
      go true e =
          absurd (false≢true (sym run ∙ below_all c run_test (λ i s. sym (same_test i s) ∙ below_at n (index_at home iblb lbns) e (k + i) (omega arith))))

-- The walk's end.
pub index-end : (home iblb m : ℕ) (lbns : List ℕ) (k : ℕ) → k ≡ min (length lbns) (m + 18) → below k (index_at home iblb lbns) ≡ true → eqb k (m + 18) ≡ index_mapped home iblb m lbns
unfolding index_mapped
index-end home iblb m lbns k e before = go (dec_lt (length lbns) (m + 18))
  where
    go : Dec (length lbns < m + 18) → eqb k (m + 18) ≡ (leb (m + 18) (length lbns) && below (m + 18) (index_at home iblb lbns))
    go (yes s) = rw (ne_eqb k (m + 18) (omega arith), lt-leb (m + 18) (length lbns) s)
    go (no s) =
        let f : k ≡ m + 18 = omega arith in
        rw (eq-eqb k (m + 18) f, le-leb (m + 18) (length lbns) (omega arith), ← f) (sym before)

-- The storage map's file: its first block, and the row of those that have the bits.
module _ (q : ℕ) (h : List ℕ) (t : storage_mapped q h ≡ true) where
  shape : (length (blocks_of h) ≡ 1 + q) × ((pointers h ≡ 1) ⊎ (pointers h ≡ 2) × (pointer_count h (pointers_at h) ≡ 1))
  unfolding storage_mapped
  shape =
      let both = (and-eq-true_iff (eqb (length (blocks_of h)) (1 + q)) (eqb (pointers h) 1 || (eqb (pointers h) 2 && eqb (pointer_count h (pointers_at h)) 1))).0 t in
      (eqb-true (length (blocks_of h)) (1 + q) both.0, go (eqb (pointers h) 1) refl both.1)
    where
      go : (b : Bool) → eqb (pointers h) 1 ≡ b → (b || (eqb (pointers h) 2 && eqb (pointer_count h (pointers_at h)) 1)) ≡ true
          → (pointers h ≡ 1) ⊎ (pointers h ≡ 2) × (pointer_count h (pointers_at h) ≡ 1)
      go true e r = inl (eqb-true (pointers h) 1 e)
      go false e r =
          let two = (and-eq-true_iff (eqb (pointers h) 2) (eqb (pointer_count h (pointers_at h)) 1)).0 r in
          inr (eqb-true (pointers h) 2 two.0, eqb-true (pointer_count h (pointers_at h)) 1 two.1)

  pub storage-long : length (blocks_of h) ≡ 1 + q
  storage-long = shape.0

  -- One pointer maps them all, or the second maps those after the first.
  row_of : pointers h ≡ 1 → (i : ℕ) → i < 1 + q → get_or (blocks_of h) i 0 ≡ pointer_lbn h (pointers_at h + 4 * 0) + i
  unfolding blocks_of
  row_of one i l =
      let at = pointers_at h in
      let long : length (runs h at 1) ≡ 1 + q = ap (λ (k : ℕ). length (runs h at k)) (sym one) ∙ storage-long in
      let none = ap length (runs_none h at) in
      let e : i ≡ length (runs h at 0) + i = omega arith in
      rw (one, e) (runs-at h at 0 1 i (omega arith) (omega (arith, runs-length h at 0)) ∙ omega arith)

  row-after : pointers h ≡ 2 → pointer_count h (pointers_at h) ≡ 1 → (i : ℕ) → i < q → get_or (blocks_of h) (1 + i) 0 ≡ pointer_lbn h (pointers_at h + 4 * 1) + i
  unfolding blocks_of
  row-after two first i l =
      let at = pointers_at h in
      let long : length (runs h at 2) ≡ 1 + q = ap (λ (k : ℕ). length (runs h at k)) (sym two) ∙ storage-long in
      let one : length (runs h at 1) ≡ 1 = omega (arith, ap length (runs_none h at), runs-length h at 0, ap (pointer_count h) {x = at + 4 * 0} {y = at} (omega arith), first) in
      rw (two, ← one) (runs-at h at 1 2 i (omega arith) (omega (arith, runs-length h at 1)))

  pub storage-row : (i : ℕ) → i < q → get_or (blocks_of h) (1 + i) 0 ≡ get_or (blocks_of h) 1 0 + i
  storage-row i l = go shape.1
    where
      at : ℕ
      at = pointers_at h

      go : (pointers h ≡ 1) ⊎ (pointers h ≡ 2) × (pointer_count h at ≡ 1) → get_or (blocks_of h) (1 + i) 0 ≡ get_or (blocks_of h) 1 0 + i
      go (inl one) = omega (arith, row_of one (1 + i) (omega arith), row_of one 1 (omega arith))
      go (inr two) = omega (arith, row-after two.0 two.1 i l, row-after two.0 two.1 0 (omega arith))
