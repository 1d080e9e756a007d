-- Laws of the blocks that headers in use cover, on an image that passes FILES and LINKS.
use Rattle.std.specs.Prelude.{Ok}
use mathlib.Core.Path.{◌≡◌, refl, sym}
use mathlib.Core.Bool.{Bool, true, false, cond, and-eq-true_iff}
use mathlib.Core.List.{List, [], ◌++◌}
use Prim.Native.Nat.{ℕ, zero, suc, ◌+◌, ◌-◌, ◌≤◌, ◌<◌}
use native.Mathlib.Decide.{ℕ_discrete, dec_lt}
use native.Mathlib.Omega.{arith}
use borrow.Author.Tests.{eq-eqb, ne_eqb}
use lib.Dec.{eqb}
use lib.ListN.{length, get_or, length-append, get_or-append}
use lib.Seq.{get_or-append-add}
use Rattle.header.specs.Fields.{m_efnu}
use Rattle.pointers.specs.Pointers.{Fits, blocks_of}
use Rattle.whole.specs.Whole.{fault}
use Rattle.whole.proofs.WholeLaws.{whole_is, whole-fits, whole-inside}
use Rattle.home.specs.Home.{blocks}
use Rattle.volume.specs.Volume.{fmax, has_slot, header, fault_of, in_use, is_number}
use Rattle.volume.specs.Opening.{open_volume}
use Rattle.volume.proofs.VolumeLaws.{opens, header-length}
use Rattle.chains.specs.Chains.{good_link, chain, chain_of, good_link_of, good_chain, file_blocks}
use Rattle.pointers.specs.Pointers.{flat}
use Rattle.lists.specs.Lists.{every}
use Rattle.chains.proofs.LinkLaws.{good-links}
use Rattle.lists.specs.Counts.{count, In}
use Rattle.marks.specs.Marks.{raised_by}
use Rattle.lists.proofs.CountLaws.{count_none, count-append}
use Rattle.marks.proofs.MarkLaws.{raised_by-append}
use Rattle.slots.specs.Slots.{gathered}
use Rattle.slots.proofs.SlotLaws.{used-range}
use Rattle.files.specs.Files.{files}
use Rattle.files.proofs.FileLaws.{FilesPassed, files-passed}
use Rattle.covers.specs.Covered.{Ends, covered}

-- The pointers of a whole header end below the number of blocks, and so within an area that has a byte for each block.
pub whole-ends : (n k : ℕ) (h : List ℕ) (total : ℕ) → fault total n h ≡ 0 → total ≤ k → Ends k h
whole-ends n k h total e l =
    let w = whole_is total n h e in
    record { each = λ p i. omega (arith, w.ends p i) }

-- Of two lists one after the other, one has what both have.
pub in_either : {P : Type 0} (x : ℕ) (s t : List ℕ) → (In x s → P) → (In x t → P) → In x (s ++ t) → P
in_either {P} x s t left right i = go (dec_lt 0 (count x s))
  where
    go : Dec (0 < count x s) → P
    go (yes l) = left l
    go (no l) = right (omega (arith, count-append x s t))

-- Elements of two lists one after the other.
pub append-below : (k : ℕ) (s t : List ℕ) → ((i : ℕ) → i < length s → get_or s i 0 < k) → ((i : ℕ) → i < length t → get_or t i 0 < k)
    → (i : ℕ) → i < length (s ++ t) → get_or (s ++ t) i 0 < k
append-below k s t left right i l = go (dec_lt i (length s))
  where
    go : Dec (i < length s) → get_or (s ++ t) i 0 < k
    go (yes m) = rw (get_or-append s t 0 i m) (left i m)
    go (no m) =
        let e : i ≡ length s + (i - length s) = omega arith in
        rw e (rw (get_or-append-add s t (i - length s) 0) (right (i - length s) (omega (arith, length-append s t))))

module _ (image : List ℕ) (give : List ℕ → List ℕ) where
  -- What each header in use gives lies below k, so all that is gathered does.
  pub gathered-below : (k : ℕ) → ((n : ℕ) → in_use image n ≡ true → (i : ℕ) → i < length (give (header image n)) → get_or (give (header image n)) i 0 < k)
      → (m i : ℕ) → i < length (gathered image give m) → get_or (gathered image give m) i 0 < k
  unfolding gathered
  gathered-below k each zero i l = absurd (omega arith)
  gathered-below k each (suc m) i l =
      append-below k (gathered image give m) (cond (in_use image (suc m)) (give (header image (suc m))) []) (gathered-below k each m) (last (in_use image (suc m)) refl) i l
    where
      last : (b : Bool) → in_use image (suc m) ≡ b → (i : ℕ) → i < length (cond b (give (header image (suc m))) []) → get_or (cond b (give (header image (suc m))) []) i 0 < k
      last true u i l = each (suc m) u i l
      last false u i l = absurd (omega arith)

  -- What a header in use gives is gathered.
  pub gathered-in : (n x : ℕ) → 1 ≤ n → in_use image n ≡ true → In x (give (header image n)) → (m : ℕ) → n ≤ m → In x (gathered image give m)
  unfolding gathered
  gathered-in n x low u has zero l = absurd (omega arith)
  gathered-in n x low u has (suc m) l = go (ℕ_discrete n (suc m)) (gathered-in n x low u has m)
    where
      rest : List ℕ
      rest = cond (in_use image (suc m)) (give (header image (suc m))) []

      here : n ≡ suc m → In x rest
      here e = rw (← e, u) has

      go : Dec (n ≡ suc m) → (n ≤ m → In x (gathered image give m)) → In x (gathered image give m ++ rest)
      go (yes e) before = omega (arith, count-append x (gathered image give m) rest, here e)
      go (no ne) before = omega (arith, count-append x (gathered image give m) rest, before (omega arith))

module _ (image : List ℕ) (whole : (n : ℕ) → in_use image n ≡ true → fault_of image n ≡ 0) where
  -- The blocks of each header in use lie on the volume.
  pub used-below : (n : ℕ) → in_use image n ≡ true → (i : ℕ) → i < length (blocks_of (header image n)) → get_or (blocks_of (header image n)) i 0 < blocks image
  unfolding fault_of
  used-below n u i l = whole-inside (blocks image) n (header image n) (whole n u) i l

  pub covered-below : (i : ℕ) → i < length (covered image) → get_or (covered image) i 0 < blocks image
  unfolding covered
  covered-below = gathered-below image blocks_of (blocks image) used-below (fmax image)

-- The chains of headers in use, where each has a good link.
module _ (image : List ℕ) (good : (n : ℕ) → in_use image n ≡ true → good_link image (header image n) ≡ true) where
  next-used : (n : ℕ) → in_use image n ≡ true → (m_efnu (header image n) ≡ 0 → ⊥) → in_use image (m_efnu (header image n)) ≡ true
  unfolding is_number
  next-used n u ne = ((and-eq-true_iff (in_use image (m_efnu (header image n))) (has_slot image (m_efnu (header image n)))).0 (good-links image (header image n) ne (good n u)).number).0

  every-good : (f n : ℕ) → in_use image n ≡ true → every (good_link_of image) (chain (header image) f n) ≡ true
  unfolding chain every good_link_of
  every-good zero n u = refl
  every-good (suc f) n u = rw (good n u) (go (ℕ_discrete (m_efnu (header image n)) 0) (every-good f (m_efnu (header image n))))
    where
      go : Dec (m_efnu (header image n) ≡ 0) → (in_use image (m_efnu (header image n)) ≡ true → every (good_link_of image) (chain (header image) f (m_efnu (header image n))) ≡ true)
          → every (good_link_of image) (cond (eqb (m_efnu (header image n)) 0) [] (chain (header image) f (m_efnu (header image n)))) ≡ true
      go (yes e) on = rw (eq-eqb (m_efnu (header image n)) 0 e) refl
      go (no ne) on = rw (ne_eqb (m_efnu (header image n)) 0 ne) (on (next-used n u ne))

  pub good-chain : (n : ℕ) → in_use image n ≡ true → good_chain image n ≡ true
  unfolding good_chain chain_of
  good-chain n u = every-good 256 n u

  flat-covered : (low : (n : ℕ) → in_use image n ≡ true → (1 ≤ n) × (n ≤ fmax image)) (j f n : ℕ) → in_use image n ≡ true → In j (flat (header image) (chain (header image) f n)) → In j (covered image)
  unfolding chain flat covered
  flat-covered low j zero n u i = absurd (omega (arith, count_none j))
  flat-covered low j (suc f) n u i =
      in_either j (blocks_of (header image n)) _
      here (go (ℕ_discrete (m_efnu (header image n)) 0) (flat-covered low j f (m_efnu (header image n)))) i
    where
      here : In j (blocks_of (header image n)) → In j (covered image)
      here h = gathered-in image blocks_of n j (low n u).0 u h (fmax image) (low n u).1

      go : Dec (m_efnu (header image n) ≡ 0) → (in_use image (m_efnu (header image n)) ≡ true → In j (flat (header image) (chain (header image) f (m_efnu (header image n)))) → In j (covered image))
          → In j (flat (header image) (cond (eqb (m_efnu (header image n)) 0) [] (chain (header image) f (m_efnu (header image n))))) → In j (covered image)
      go (yes e) on h = absurd (omega (arith, count_none j, rw (eq-eqb (m_efnu (header image n)) 0 e) at h))
      go (no ne) on h = on (next-used n u ne) (rw (ne_eqb (m_efnu (header image n)) 0 ne) at h)

  -- The blocks of a file are covered.
  pub file-covered : (low : (n : ℕ) → in_use image n ≡ true → (1 ≤ n) × (n ≤ fmax image)) (n j : ℕ) → in_use image n ≡ true → In j (file_blocks image n) → In j (covered image)
  unfolding file_blocks chain_of
  file-covered low n j u i = flat-covered low j 256 n u i

-- The headers in use on a volume that opens and passes FILES.
module _ (image : List ℕ) (o : open_volume image ≡ Ok tt) (f : files image ≡ Ok tt) where
  pub passes : FilesPassed image
  passes = files-passed image (opens image o).enough f

  pub used-fits : (n : ℕ) → in_use image n ≡ true → Fits (header image n)
  unfolding fault_of
  used-fits n u = whole-fits (blocks image) n (header image n) (header-length (opens image o) n (used-range image n u).0 (passes.slotted n u)) (passes.whole n u)

  pub used-ends : (n k : ℕ) → in_use image n ≡ true → blocks image ≤ k → Ends k (header image n)
  unfolding fault_of
  used-ends n k u l = whole-ends n k (header image n) (blocks image) (passes.whole n u) l

-- One more number of a pass over the headers in use, from number n on.
pub raised-more : (image area : List ℕ) (n : ℕ) → 1 ≤ n
    → raised_by (raised_by area (gathered image blocks_of (n - 1))) (cond (in_use image n) (blocks_of (header image n)) []) ≡ raised_by area (gathered image blocks_of (n + 1 - 1))
unfolding gathered
raised-more image area zero l = absurd (omega arith)
raised-more image area (suc m) l =
    let now : suc m - 1 ≡ m = omega arith in
    let next : suc m + 1 - 1 ≡ suc m = omega arith in
    rw (now, next) (sym (raised_by-append area (gathered image blocks_of m) (cond (in_use image (suc m)) (blocks_of (header image (suc m))) [])))
