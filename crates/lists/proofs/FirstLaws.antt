-- Laws of the first number that passes a test.
use mathlib.Core.Path.{◌≡◌, refl, sym, ap, ◌∙◌}
use mathlib.Core.Bool.{Bool, true, false}
use Prim.Native.Nat.{ℕ, zero, suc, ◌+◌, ◌-◌, ◌≤◌, ◌<◌}
use native.Mathlib.Decide.{ℕ_discrete, dec_lt}
use native.Mathlib.Nat.{sub-zero}
use native.Mathlib.Omega.{arith}
use Rattle.lists.specs.First.{first}

-- What is known of the first of the d numbers from s on at which p passes: t.
pub record Is (p : ℕ → Bool) (s d t : ℕ) : Type 0 where
  pub low : s ≤ t
  pub high : t ≤ s + d
  pub before : (i : ℕ) → s ≤ i → i < t → p i ≡ false
  pub here : t < s + d → p t ≡ true

module _ (p : ℕ → Bool) where
  -- A loop that goes up to the end e: it starts at 0, and at i it has found the number, goes on, or is past the last.
  pub first-start : (e : ℕ) → first p 0 e ≡ first p 0 (e - 0)
  first-start e = rw sub-zero

  pub first-here : (i e : ℕ) → i < e → p i ≡ true → first p i (e - i) ≡ i
  unfolding first
  first-here i e l h =
      let n : e - i ≡ suc (e - (i + 1)) = omega arith in
      rw (n, h)

  pub first_on : (i e : ℕ) → i < e → p i ≡ false → first p i (e - i) ≡ first p (i + 1) (e - (i + 1))
  unfolding first
  first_on i e l h =
      let n : e - i ≡ suc (e - (i + 1)) = omega arith in
      rw (n, h)

  pub first-none : (i e : ℕ) → e ≤ i → first p i (e - i) ≡ i
  unfolding first
  first-none i e l =
      let n : e - i ≡ 0 = omega arith in
      rw n

  pub first-has : (s d : ℕ) → Is p s d (first p s d)
  unfolding first
  first-has s zero = record { low = omega arith; high = omega arith; before = λ i a b. absurd (omega arith); here = λ h. absurd (omega arith) }
  first-has s (suc d) = go (p s) refl (first-has (s + 1) d)
    where
      go : (b : Bool) → p s ≡ b → Is p (s + 1) d (first p (s + 1) d) → Is p s (suc d) (first p s (suc d))
      go true e r = rw e (record { low = omega arith; high = omega arith; before = λ i a b. absurd (omega arith); here = λ h. e })
      go false e r = rw e (record {
        low = omega arith;
        high = omega arith;
        before = λ i a b. at i (ℕ_discrete s i) a b;
        here = λ h. r.here (omega arith);
      })
        where
          at : (i : ℕ) → Dec (s ≡ i) → s ≤ i → i < first p (s + 1) d → p i ≡ false
          at i (yes q) a b = ap p (sym q) ∙ e
          at i (no q) a b = r.before i (omega arith) b

  -- A number of which that is known is the one.
  pub first-is : (s d t : ℕ) → Is p s d t → first p s d ≡ t
  first-is s d t r = go (first-has s d) (dec_lt (first p s d) t) (dec_lt t (first p s d))
    where
      never : (i : ℕ) → p i ≡ true → p i ≡ false → ⊥
      never i a b = let z : ◌≡◌ {A = ℕ} 0 1 = cc in omega arith

      go : Is p s d (first p s d) → Dec (first p s d < t) → Dec (t < first p s d) → first p s d ≡ t
      go q (yes l) g = absurd (never (first p s d) (q.here (omega arith)) (r.before (first p s d) q.low l))
      go q (no l) (yes g) = absurd (never t (r.here (omega arith)) (q.before t r.low g))
      go q (no l) (no g) = omega arith

-- Two tests that agree at the d numbers from s on.
pub first-same : (p q : ℕ → Bool) (s d : ℕ) → ((i : ℕ) → s ≤ i → i < s + d → p i ≡ q i) → first p s d ≡ first q s d
first-same p q s d h =
    let r = first-has q s d in
    first-is p s d (first q s d) (record {
      low = r.low;
      high = r.high;
      before = λ i a b. h i a (omega arith) ∙ r.before i a b;
      here = λ l. h (first q s d) r.low l ∙ r.here l;
    })

-- A range that is searched in two parts, up to m and from there on to e: the first part has the number, or the second is searched from where
-- the first ended.
module _ (p : ℕ → Bool) (s m e : ℕ) (inside : m ≤ e) where
  pub first_found : first p s (m - s) < m → first p s (e - s) ≡ first p s (m - s)
  first_found h =
      let r = first-has p s (m - s) in
      first-is p s (e - s) (first p s (m - s)) (record { low = r.low; high = omega arith; before = r.before; here = λ l. r.here (omega arith) })

  pub first_past : m ≤ first p s (m - s) → first p s (e - s) ≡ first p (first p s (m - s)) (e - first p s (m - s))
  first_past h = go (first p s (m - s)) h (first-has p s (m - s))
    where
      go : (t : ℕ) → m ≤ t → Is p s (m - s) t → first p s (e - s) ≡ first p t (e - t)
      go t h r = first-is p s (e - s) (first p t (e - t)) (record { low = omega (arith, r.low, q.low); high = high; before = λ i a b. at i (dec_lt i t) a b; here = λ l. q.here (omega (arith, r.low, r.high)) })
        where
          q : Is p t (e - t) (first p t (e - t))
          q = first-has p t (e - t)

          high : first p t (e - t) ≤ s + (e - s)
          high = omega (arith, r.low, r.high, q.high)

          at : (i : ℕ) → Dec (i < t) → s ≤ i → i < first p t (e - t) → p i ≡ false
          at i (yes l) a b = r.before i a l
          at i (no l) a b = q.before i (omega arith) b

-- A test that is another one k places further on.
pub first-shift : (p q : ℕ → Bool) (k s d : ℕ) → ((i : ℕ) → s ≤ i → i < s + d → q (k + i) ≡ p i) → first q (k + s) d ≡ k + first p s d
first-shift p q k s d h =
    let r = first-has p s d in
    first-is q (k + s) d (k + first p s d) (record {
      low = omega (arith, r.low);
      high = omega (arith, r.high);
      before = λ i a b. ap q (omega arith) ∙ h (i - k) (omega arith) (omega (arith, r.high)) ∙ r.before (i - k) (omega arith) (omega arith);
      here = λ l. h (first p s d) r.low (omega arith) ∙ r.here (omega arith);
    })

pub first-behind : (p : ℕ → Bool) (s m e : ℕ) → s ≤ m → m ≤ e → ((i : ℕ) → s ≤ i → i < m → p i ≡ false) → first p s (e - s) ≡ first p m (e - m)
first-behind p s m e low high none =
    let r = first-has p m (e - m) in
    first-is p s (e - s) (first p m (e - m)) (record {
      low = omega (arith, r.low);
      high = omega (arith, r.high);
      before = λ i a b. go r i (dec_lt i m) a b;
      here = λ l. r.here (omega arith);
    })
  where
    go : Is p m (e - m) (first p m (e - m)) → (i : ℕ) → Dec (i < m) → s ≤ i → i < first p m (e - m) → p i ≡ false
    go r i (yes l) a b = none i a l
    go r i (no l) a b = r.before i (omega arith) b
