-- What a whole header has.
use mathlib.Core.Path.{◌≡◌, refl, ap}
use mathlib.Core.Bool.{Bool, true, false, not, ◌||◌, false≢true, and-eq-true_iff}
use mathlib.Core.List.{List, [], ◌∷◌}
use Prim.Native.Nat.{ℕ, zero, suc, ◌+◌, ◌*◌, ◌-◌, ◌%◌, ◌≤◌, ◌<◌}
use native.Mathlib.Numerals.{add-one}
use native.Mathlib.Decide.{ℕ_discrete, dec_lt}
use native.Mathlib.Omega.{arith}
use borrow.Author.Tests.{eqb-true, leb-true, eq-eqb, ne_eqb, le-leb}
use lib.Dec.{eqb, leb}
use lib.ListN.{length, get_or, get_or-append}
use lib.Seq.{get_or-append-add}
use Rattle.image.specs.Words.{word_at}
use Rattle.image.specs.Sums.{checksum}
use Rattle.lists.proofs.BelowLaws.{below_at, below_all}
use Rattle.header.specs.Fields.{h_idof, h_mpof, h_fnum, h_flev, map_area, m_ervn, m_efnu, m_efsq, m_ctsz, m_lbsz, m_use, m_max}
use Rattle.pointers.specs.Pointers.{pointer_lbn, pointer_count, run, runs, pointers_at, pointers, Fits, blocks_of}
use Rattle.whole.specs.Whole.{ends_inside, link_tests, map_tests, tests, first_unmet, fault}
use Rattle.pointers.proofs.PointerLaws.{run_at, runs_none, runs-more, runs-length}

-- Each test of "whole for n" as what it says.
pub record Whole (blocks n : ℕ) (h : List ℕ) : Type 0 where
  pub sum : checksum h 255 ≡ word_at h 510
  pub level : h_flev h ≡ 257
  pub number : h_fnum h ≡ n
  pub ident : 23 ≤ h_idof h
  pub map : h_idof h ≤ h_mpof h
  pub room : h_mpof h + 5 + m_max h ≤ 255
  pub even : m_use h % 2 ≡ 0
  pub filled : m_use h ≤ m_max h
  pub ctsz : m_ctsz h ≡ 1
  pub lbsz : m_lbsz h ≡ 3
  pub ervn : m_ervn h ≡ 0
  pub unlinked : m_efnu h ≡ 0 → m_efsq h ≡ 0
  pub ends : (p : ℕ) → p < pointers h → pointer_lbn h (pointers_at h + 4 * p) + pointer_count h (pointers_at h + 4 * p) ≤ blocks

-- Where no test of a row is unmet, the first is met, and none of the rest is unmet.
all-met : (t : ℕ) (b : Bool) (rest : List Bool) → first_unmet (suc t) (b ∷ rest) ≡ 0 → (b ≡ true) × (first_unmet (suc t + 1) rest ≡ 0)
unfolding first_unmet
all-met t true rest e = (refl, e)
all-met t false rest e = absurd (omega arith)

unlinked-is : (h : List ℕ) → (not (eqb (m_efnu h) 0) || eqb (m_efsq h) 0) ≡ true → m_efnu h ≡ 0 → m_efsq h ≡ 0
unlinked-is h t e = eqb-true (m_efsq h) 0 (rw (eq-eqb (m_efnu h) 0 e) at t)

pub whole_is : (blocks n : ℕ) (h : List ℕ) → fault blocks n h ≡ 0 → Whole blocks n h
unfolding fault tests map_tests link_tests ends_inside
whole_is blocks n h e =
    let t1 = all-met 0 _ _ e in
    let t2 = all-met 1 _ _ t1.1 in
    let t3 = all-met 2 _ _ t2.1 in
    let t4 = all-met 3 _ _ t3.1 in
    let t5 = all-met 4 _ _ t4.1 in
    let t6 = all-met 5 _ _ t5.1 in
    let t7 = all-met 6 _ _ t6.1 in
    let t8 = all-met 7 _ _ t7.1 in
    let t9 = all-met 8 _ _ t8.1 in
    let t10 = all-met 9 _ _ t9.1 in
    let t11 = all-met 10 _ _ t10.1 in
    let t12 = all-met 11 _ _ t11.1 in
    let both = (and-eq-true_iff (eqb (m_use h % 2) 0) (leb (m_use h) (m_max h))).0 t7.0 in
    record {
      sum = eqb-true (checksum h 255) (word_at h 510) t1.0;
      level = eqb-true (h_flev h) 257 t2.0;
      number = eqb-true (h_fnum h) n t3.0;
      ident = leb-true 23 (h_idof h) t4.0;
      map = leb-true (h_idof h) (h_mpof h) t5.0;
      room = leb-true (h_mpof h + 5 + m_max h) 255 t6.0;
      even = eqb-true (m_use h % 2) 0 both.0;
      filled = leb-true (m_use h) (m_max h) both.1;
      ctsz = eqb-true (m_ctsz h) 1 t8.0;
      lbsz = eqb-true (m_lbsz h) 3 t9.0;
      ervn = eqb-true (m_ervn h) 0 t10.0;
      unlinked = unlinked-is h t11.0;
      ends = λ p l. leb-true _ _ (below_at (pointers h) (ends_inside blocks h) t12.0 p l);
    }

-- The way back: a row without tests, and a test that is met before a row of which none is unmet.
all-met-none : (t : ℕ) → first_unmet t [] ≡ 0
unfolding first_unmet
all-met-none t = refl

all-met-more : (t : ℕ) (b : Bool) (rest : List Bool) → b ≡ true → first_unmet (t + 1) rest ≡ 0 → first_unmet t (b ∷ rest) ≡ 0
unfolding first_unmet
all-met-more t true rest e f = f
all-met-more t false rest e f = absurd (false≢true e)

unlinked-holds : (h : List ℕ) → (m_efnu h ≡ 0 → m_efsq h ≡ 0) → (not (eqb (m_efnu h) 0) || eqb (m_efsq h) 0) ≡ true
unlinked-holds h f = go (ℕ_discrete (m_efnu h) 0)
  where
    go : Dec (m_efnu h ≡ 0) → (not (eqb (m_efnu h) 0) || eqb (m_efsq h) 0) ≡ true
    go (yes e) = rw (eq-eqb (m_efnu h) 0 e, eq-eqb (m_efsq h) 0 (f e))
    go (no ne) = rw (ne_eqb (m_efnu h) 0 ne)

pub whole-holds : (blocks n : ℕ) (h : List ℕ) → Whole blocks n h → fault blocks n h ≡ 0
unfolding fault tests map_tests link_tests ends_inside
whole-holds blocks n h w =
    let both = (and-eq-true_iff (eqb (m_use h % 2) 0) (leb (m_use h) (m_max h))).1 (eq-eqb (m_use h % 2) 0 w.even, le-leb (m_use h) (m_max h) w.filled) in
    all-met-more 1 _ _ (eq-eqb (checksum h 255) (word_at h 510) w.sum)
    (all-met-more 2 _ _ (eq-eqb (h_flev h) 257 w.level)
    (all-met-more 3 _ _ (eq-eqb (h_fnum h) n w.number)
    (all-met-more 4 _ _ (le-leb 23 (h_idof h) w.ident)
    (all-met-more 5 _ _ (le-leb (h_idof h) (h_mpof h) w.map)
    (all-met-more 6 _ _ (le-leb (h_mpof h + 5 + m_max h) 255 w.room)
    (all-met-more 7 _ _ both
    (all-met-more 8 _ _ (eq-eqb (m_ctsz h) 1 w.ctsz)
    (all-met-more 9 _ _ (eq-eqb (m_lbsz h) 3 w.lbsz)
    (all-met-more 10 _ _ (eq-eqb (m_ervn h) 0 w.ervn)
    (all-met-more 11 _ _ (unlinked-holds h w.unlinked)
    (all-met-more 12 _ _ (below_all (pointers h) (ends_inside blocks h) (λ p l. le-leb _ _ (w.ends p l))) (all-met-none 13))))))))))))

-- The pointers of a whole header lie in it.
pub fits-inside : (h : List ℕ) → length h ≡ 512 → h_mpof h + 5 + m_max h ≤ 255 → m_use h ≤ m_max h → Fits h
unfolding pointers_at map_area pointers
fits-inside h long room filled = omega arith

pub whole-fits : (blocks n : ℕ) (h : List ℕ) → length h ≡ 512 → fault blocks n h ≡ 0 → Fits h
whole-fits blocks n h long e =
    let w = whole_is blocks n h e in
    fits-inside h long w.room w.filled

-- Blocks of pointers that end inside lie on the volume.
runs-below : (blocks at : ℕ) (h : List ℕ) (k : ℕ) → ((p : ℕ) → p < k → pointer_lbn h (at + 4 * p) + pointer_count h (at + 4 * p) ≤ blocks)
    → (i : ℕ) → i < length (runs h at k) → get_or (runs h at k) i 0 < blocks
runs-below blocks at h zero ends i l = absurd (omega (arith, ap length (runs_none h at)))
runs-below blocks at h (suc k) ends i l =
    go (dec_lt i (length (runs h at k))) (λ m. runs-below blocks at h k (λ p q. ends p (omega arith)) i m)
  where
    go : Dec (i < length (runs h at k)) → (i < length (runs h at k) → get_or (runs h at k) i 0 < blocks) → get_or (runs h at (suc k)) i 0 < blocks
    go (yes m) f = rw (← add-one k, runs-more h at k, get_or-append (runs h at k) (run h (at + 4 * k)) 0 i m) (f m)
    go (no m) f =
        let j = i - length (runs h at k) in
        let e : i ≡ length (runs h at k) + j = omega arith in
        let long : length (runs h at (suc k)) ≡ length (runs h at k) + pointer_count h (at + 4 * k) = rw (← add-one k) (runs-length h at k) in
        rw (← add-one k, runs-more h at k, e, get_or-append-add (runs h at k) (run h (at + 4 * k)) j 0, run_at h (at + 4 * k) j (omega arith))
        (omega (arith, ends k (omega arith)))

-- The blocks of a whole header lie on the volume.
pub whole-inside : (blocks n : ℕ) (h : List ℕ) → fault blocks n h ≡ 0 → (i : ℕ) → i < length (blocks_of h) → get_or (blocks_of h) i 0 < blocks
unfolding blocks_of
whole-inside blocks n h e i l = runs-below blocks (pointers_at h) h (pointers h) (whole_is blocks n h e).ends i l
