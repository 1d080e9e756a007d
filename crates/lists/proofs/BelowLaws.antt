-- The way between a test's computed answer at all numbers below n and what it says of each of them.
use mathlib.Core.Path.{◌≡◌, refl, sym, ap, ◌∙◌}
use mathlib.Core.Bool.{Bool, true, false, false≢true, and-eq-true_iff}
use Prim.Native.Nat.{ℕ, zero, suc, ◌+◌, ◌<◌}
use native.Mathlib.Numerals.{add-one}
use native.Mathlib.Decide.{ℕ_discrete}
use native.Mathlib.Omega.{arith}
use Rattle.lists.specs.First.{below}

-- A loop over the numbers: none yet, and one more.
pub below_none : (p : ℕ → Bool) → below 0 p ≡ true
unfolding below
below_none p = refl

pub below_more : (n : ℕ) (p : ℕ → Bool) → below n p ≡ true → p n ≡ true → below (n + 1) p ≡ true
unfolding below
below_more n p h t = rw (add-one n, t, h)

pub below_at : (n : ℕ) (p : ℕ → Bool) → below n p ≡ true → (k : ℕ) → k < n → p k ≡ true
unfolding below
below_at zero p h k l = absurd (omega arith)
below_at (suc n) p h k l = go (ℕ_discrete k n) (below_at n p both.1 k)
  where
    both : (p n ≡ true) × (below n p ≡ true)
    both = (and-eq-true_iff (p n) (below n p)).0 h

    go : Dec (k ≡ n) → (k < n → p k ≡ true) → p k ≡ true
    go (yes e) rest = ap p e ∙ both.0
    go (no ne) rest = rest (omega arith)

pub below_all : (n : ℕ) (p : ℕ → Bool) → ((k : ℕ) → k < n → p k ≡ true) → below n p ≡ true
unfolding below
below_all zero p h = refl
below_all (suc n) p h = rw (h n (omega arith)) (below_all n p (λ k l. h k (omega arith)))

pub below_fails : (n : ℕ) (p : ℕ → Bool) (k : ℕ) → k < n → p k ≡ false → below n p ≡ false
below_fails n p k l h = go (below n p) refl
  where
    go : (b : Bool) → below n p ≡ b → below n p ≡ false
    go true e = absurd (false≢true (sym h ∙ below_at n p e k l))
    go false e = e
