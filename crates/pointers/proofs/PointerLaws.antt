-- Laws of the blocks that a header's pointers cover.
use Rattle.std.specs.Prelude.{Ok, Err}
use Rattle.std.specs.Result.{result_unwrap_or}
use mathlib.Core.Path.{◌≡◌, refl, sym, ap, ◌∙◌}
use mathlib.Core.List.{List, [], ◌++◌}
use Prim.Native.Nat.{ℕ, zero, suc, ◌+◌, ◌*◌, ◌-◌, ◌≤◌, ◌<◌}
use native.Mathlib.Numerals.{add-one}
use native.Mathlib.Decide.{dec_lt}
use native.Mathlib.Omega.{arith}
use borrow.Author.Tests.{lt-ltb, le-ltb}
use lib.ListN.{length, get_or, length-append, get_or-append, get_or-eq_default}
use lib.Seq.{get_or-append-add}
use Rattle.lists.proofs.NumbersLaws.{numbers_from-length, numbers_from-at}
use Rattle.pointers.specs.Pointers.{pointer_lbn, pointer_count, run, runs, pointers_at, pointers, blocks_of, InPointer, place_in}
use Rattle.answer.specs.declared.types.Lbn.{Lbn}

module _ (lbns : List ℕ) (i : ℕ) where
  pub place_at : i < length lbns → place_in lbns i ≡ Ok (record { 0 = get_or lbns i 0 })
  unfolding place_in
  place_at h = rw (lt-ltb i (length lbns) h)

  pub place-past : length lbns ≤ i → place_in lbns i ≡ Err (i - length lbns)
  unfolding place_in
  place-past h = rw (le-ltb i (length lbns) h)

-- The LBN at a place; 0 past the last.
pub place-or_zero : (lbns : List ℕ) (i : ℕ) → (result_unwrap_or (place_in lbns i) (record { 0 = 0 })).0 ≡ get_or lbns i 0
place-or_zero lbns i = go (dec_lt i (length lbns))
  where
    go : Dec (i < length lbns) → (result_unwrap_or (place_in lbns i) (record { 0 = 0 })).0 ≡ get_or lbns i 0
    go (yes l) = rw (place_at lbns i l)
    go (no l) = rw (place-past lbns i (omega arith)) (sym (get_or-eq_default lbns 0 {n = i} (omega arith)))

module _ (h : List ℕ) (at : ℕ) where
  pub run_length : length (run h at) ≡ pointer_count h at
  unfolding run
  run_length = numbers_from-length (pointer_lbn h at) (pointer_count h at)

  pub run_at : (i : ℕ) → i < pointer_count h at → get_or (run h at) i 0 ≡ pointer_lbn h at + i
  unfolding run
  run_at i l = numbers_from-at (pointer_lbn h at) (pointer_count h at) i l

module _ (h : List ℕ) (at : ℕ) where
  -- No pointer, and one pointer more.
  pub runs_none : runs h at 0 ≡ []
  unfolding runs
  runs_none = refl

  pub runs-more : (p : ℕ) → runs h at (p + 1) ≡ runs h at p ++ run h (at + 4 * p)
  unfolding runs
  runs-more p = rw (add-one p)

  pub runs-length : (p : ℕ) → length (runs h at (p + 1)) ≡ length (runs h at p) + pointer_count h (at + 4 * p)
  runs-length p =
      ap length (runs-more p)
      ∙ length-append (runs h at p) (run h (at + 4 * p))
      ∙ ap (λ (n : ℕ). length (runs h at p) + n) (run_length h (at + 4 * p))

  -- The blocks of the first p pointers are the first blocks of more pointers.
  pub runs-le : (p k : ℕ) → p ≤ k → length (runs h at p) ≤ length (runs h at k)
  runs-le p zero l = let e : p ≡ 0 = omega arith in rw e (omega arith)
  runs-le p (suc k) l = go (dec_lt k p) (λ m. runs-le p k m)
    where
      go : Dec (k < p) → (p ≤ k → length (runs h at p) ≤ length (runs h at k)) → length (runs h at p) ≤ length (runs h at (suc k))
      go (yes m) f = let e : p ≡ suc k = omega arith in rw e (omega arith)
      go (no m) f = rw (← add-one k) (omega (arith, f (omega arith), runs-length k))

  pub runs-first : (p k i : ℕ) → p ≤ k → i < length (runs h at p) → get_or (runs h at k) i 0 ≡ get_or (runs h at p) i 0
  runs-first p zero i l m = let e : p ≡ 0 = omega arith in rw e
  runs-first p (suc k) i l m = go (dec_lt k p) (λ n. runs-first p k i n m)
    where
      go : Dec (k < p) → (p ≤ k → get_or (runs h at k) i 0 ≡ get_or (runs h at p) i 0) → get_or (runs h at (suc k)) i 0 ≡ get_or (runs h at p) i 0
      go (yes n) f = let e : p ≡ suc k = omega arith in rw e
      go (no n) f =
          rw (← add-one k, runs-more k)
          (get_or-append (runs h at k) (run h (at + 4 * k)) 0 i (omega (arith, runs-le p k (omega arith))) ∙ f (omega arith))

  -- Block i of pointer p, among the blocks of k pointers.
  pub runs-at : (p k i : ℕ) → p < k → i < pointer_count h (at + 4 * p) → get_or (runs h at k) (length (runs h at p) + i) 0 ≡ pointer_lbn h (at + 4 * p) + i
  runs-at p k i l m =
      runs-first (p + 1) k (length (runs h at p) + i) (omega arith) (omega (arith, runs-length p))
      ∙ ap (λ (b : List ℕ). get_or b (length (runs h at p) + i) 0) (runs-more p)
      ∙ get_or-append-add (runs h at p) (run h (at + 4 * p)) i 0
      ∙ run_at h (at + 4 * p) i m

  pub runs-inside : (p k i : ℕ) → p < k → i < pointer_count h (at + 4 * p) → length (runs h at p) + i < length (runs h at k)
  runs-inside p k i l m = omega (arith, runs-length p, runs-le (p + 1) k (omega arith))

-- Place o of pointer p, by the blocks of the pointers before it.
pub in-pointer : (h : List ℕ) (p o lbn left : ℕ) → p < pointers h → o < pointer_count h (pointers_at h + 4 * p) → lbn ≡ pointer_lbn h (pointers_at h + 4 * p) + o
    → left ≡ pointer_count h (pointers_at h + 4 * p) - o → InPointer h (length (runs h (pointers_at h) p) + o) lbn left p
unfolding blocks_of
in-pointer h p o lbn left l m first e =
    let at = pointers_at h in
    let k = pointers h in
    record {
      some = omega arith;
      used = l;
      end = omega (arith, runs-length h at p);
      inside = omega (arith, runs-inside h at p k (o + (left - 1)) l (omega arith));
      row = λ j s. ap (λ (x : ℕ). get_or (runs h at k) x 0) (omega arith) ∙ runs-at h at p k (o + j) l (omega arith) ∙ omega arith;
    }

-- The place that a spot is.
pub spot-at : (h : List ℕ) (i : ℕ) (lbn : Lbn) (left p : ℕ) → InPointer h i lbn.0 left p → Ok lbn ≡ place_in (blocks_of h) i
spot-at h i lbn left p s =
    let e : get_or (blocks_of h) i 0 ≡ lbn.0 = ap (λ (x : ℕ). get_or (blocks_of h) x 0) (omega arith) ∙ s.row 0 s.some ∙ omega arith in
    rw (place_at (blocks_of h) i (omega (arith, s.some, s.inside)), e)

pub spot_past : (h : List ℕ) (i more : ℕ) → i ≡ length (blocks_of h) + more → Err more ≡ place_in (blocks_of h) i
spot_past h i more e = rw (place-past (blocks_of h) i (omega arith)) (ap Err (omega arith))
