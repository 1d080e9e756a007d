-- Sums over the numbers 1 to n, and their laws.
use mathlib.Core.Path.{◌≡◌, refl, ap, ap₂}
use mathlib.Core.Bool.{Bool, true, false}
use mathlib.Core.Logic.{◌⊎◌, inl, inr}
use Prim.Native.Nat.{ℕ, zero, suc, ◌+◌, ◌≤◌, ◌<◌}
use native.Mathlib.Decide.{ℕ_discrete, dec_lt}
use native.Mathlib.Omega.{arith}

-- A number that counts only where a test passes.
abbrev pub when : Bool → ℕ → ℕ
when true a = a
when false a = 0

-- f 1 + .. + f n
unfoldable pub sum_to : ℕ → (ℕ → ℕ) → ℕ
sum_to zero f = 0
sum_to (suc n) f = sum_to n f + f (suc n)

pub sum-none : (f : ℕ → ℕ) → sum_to 0 f ≡ 0
unfolding sum_to
sum-none f = refl

pub sum_more : (n : ℕ) (f : ℕ → ℕ) → sum_to (suc n) f ≡ sum_to n f + f (suc n)
unfolding sum_to
sum_more n f = refl

pub sum_same : (n : ℕ) (f g : ℕ → ℕ) → ((k : ℕ) → 1 ≤ k → k ≤ n → f k ≡ g k) → sum_to n f ≡ sum_to n g
unfolding sum_to
sum_same zero f g h = refl
sum_same (suc n) f g h = ap₂ (λ (a b : ℕ). a + b) (sum_same n f g (λ k a b. h k a (omega arith))) (h (suc n) (omega arith) (omega arith))

pub sum-le : (n : ℕ) (f g : ℕ → ℕ) → ((k : ℕ) → 1 ≤ k → k ≤ n → f k ≤ g k) → sum_to n f ≤ sum_to n g
unfolding sum_to
sum-le zero f g h = omega arith
sum-le (suc n) f g h = omega (arith, sum-le n f g (λ k a b. h k a (omega arith)), h (suc n) (omega arith) (omega arith))

pub sum-zero : (n : ℕ) (f : ℕ → ℕ) → ((k : ℕ) → 1 ≤ k → k ≤ n → f k ≡ 0) → sum_to n f ≡ 0
unfolding sum_to
sum-zero zero f h = refl
sum-zero (suc n) f h = omega (arith, sum-zero n f (λ k a b. h k a (omega arith)), h (suc n) (omega arith) (omega arith))

pub sum_one : (n : ℕ) (f : ℕ → ℕ) (k : ℕ) → 1 ≤ k → k ≤ n → f k ≤ sum_to n f
unfolding sum_to
sum_one zero f k a b = absurd (omega arith)
sum_one (suc n) f k a b = go (λ c. sum_one n f k a c) (ℕ_discrete k (suc n))
  where
    go : (k ≤ n → f k ≤ sum_to n f) → Dec (k ≡ suc n) → f k ≤ sum_to n f + f (suc n)
    go rest (yes e) = omega (arith, ap f e)
    go rest (no ne) = omega (arith, rest (omega arith))

pub sum-two : (n : ℕ) (f : ℕ → ℕ) (k i : ℕ) → 1 ≤ k → k < i → i ≤ n → f k + f i ≤ sum_to n f
unfolding sum_to
sum-two zero f k i a b c = absurd (omega arith)
sum-two (suc n) f k i a b c = go (λ d. sum-two n f k i a b d) (ℕ_discrete i (suc n))
  where
    go : (i ≤ n → f k + f i ≤ sum_to n f) → Dec (i ≡ suc n) → f k + f i ≤ sum_to n f + f (suc n)
    go rest (yes e) = omega (arith, ap f e, sum_one n f k a (omega arith))
    go rest (no ne) = omega (arith, rest (omega arith))

-- Two places with something each are one, where the sum is at most 1.
pub sum-apart : (n : ℕ) (f : ℕ → ℕ) → sum_to n f ≤ 1 → (k i : ℕ) → 1 ≤ k → k ≤ n → 1 ≤ i → i ≤ n → 1 ≤ f k → 1 ≤ f i → k ≡ i
sum-apart n f small k i a b c d p q = go (ℕ_discrete k i) (dec_lt k i)
  where
    go : Dec (k ≡ i) → Dec (k < i) → k ≡ i
    go (yes e) l = e
    go (no ne) (yes l) = absurd (omega (arith, sum-two n f k i a l d))
    go (no ne) (no l) = absurd (omega (arith, sum-two n f i k c (omega arith) b))

-- One summand changes.
pub sum-update : (n : ℕ) (f g : ℕ → ℕ) (i : ℕ) → 1 ≤ i → i ≤ n → ((k : ℕ) → 1 ≤ k → k ≤ n → (k ≡ i → ⊥) → g k ≡ f k)
    → sum_to n g + f i ≡ sum_to n f + g i
unfolding sum_to
sum-update zero f g i a b h = absurd (omega arith)
sum-update (suc n) f g i a b h = go (λ c. sum-update n f g i a c (λ k p q. h k p (omega arith))) (ℕ_discrete i (suc n))
  where
    go : (i ≤ n → sum_to n g + f i ≡ sum_to n f + g i) → Dec (i ≡ suc n) → sum_to n g + g (suc n) + f i ≡ sum_to n f + f (suc n) + g i
    go rest (yes e) = omega (arith, ap f e, ap g e, sum_same n g f (λ k p q. h k p (omega arith) (λ z. omega arith)))
    go rest (no ne) = omega (arith, rest (omega arith), h (suc n) (omega arith) (omega arith) (λ z. ne (omega arith)))

-- A sum that is not 0 has a summand that is not.
pub record Place (n : ℕ) (f : ℕ → ℕ) : Type 0 where
  pub at : ℕ
  pub low : 1 ≤ at
  pub high : at ≤ n
  pub here : 1 ≤ f at

pub sum-find : (n : ℕ) (f : ℕ → ℕ) → 1 ≤ sum_to n f → Place n f
unfolding sum_to
sum-find zero f h = absurd (omega arith)
sum-find (suc n) f h = go (sum-find n f) (dec_lt 0 (f (suc n)))
  where
    go : (1 ≤ sum_to n f → Place n f) → Dec (0 < f (suc n)) → Place (suc n) f
    go rest (yes p) = record { at = suc n; low = omega arith; high = omega arith; here = p }
    go rest (no p) =
        let r : Place n f = rest (omega arith) in
        record { at = r.at; low = r.low; high = omega (arith, r.high); here = r.here }

-- A sum of 2 or more has a summand of 2 or more, or two summands that are not 0.
pub record Heavy (n : ℕ) (f : ℕ → ℕ) : Type 0 where
  pub at : ℕ
  pub low : 1 ≤ at
  pub high : at ≤ n
  pub here : 2 ≤ f at

pub record Places (n : ℕ) (f : ℕ → ℕ) : Type 0 where
  pub one : ℕ
  pub two : ℕ
  pub low : 1 ≤ one
  pub less : one < two
  pub high : two ≤ n
  pub here : 1 ≤ f one
  pub there : 1 ≤ f two

pub sum-pair : (n : ℕ) (f : ℕ → ℕ) → 2 ≤ sum_to n f → Heavy n f ⊎ Places n f
unfolding sum_to
sum-pair zero f h = absurd (omega arith)
sum-pair (suc n) f h = go (sum-pair n f) (dec_lt 1 (f (suc n))) (dec_lt 0 (f (suc n)))
  where
    wider : Heavy n f ⊎ Places n f → Heavy (suc n) f ⊎ Places (suc n) f
    wider (inl r) = inl (record { at = r.at; low = r.low; high = omega (arith, r.high); here = r.here })
    wider (inr r) = inr (record { one = r.one; two = r.two; low = r.low; less = r.less; high = omega (arith, r.high); here = r.here; there = r.there })

    go : (2 ≤ sum_to n f → Heavy n f ⊎ Places n f) → Dec (1 < f (suc n)) → Dec (0 < f (suc n)) → Heavy (suc n) f ⊎ Places (suc n) f
    go rest (yes p) d = inl (record { at = suc n; low = omega arith; high = omega arith; here = p })
    go rest (no p) (yes d) =
        let r : Place n f = sum-find n f (omega arith) in
        inr (record { one = r.at; two = suc n; low = r.low; less = omega (arith, r.high); high = omega arith; here = r.here; there = d })
    go rest (no p) (no d) = wider (rest (omega arith))
