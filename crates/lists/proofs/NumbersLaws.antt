-- Laws of the list of c numbers from s on.
use mathlib.Core.Path.{◌≡◌, refl, ap, ◌∙◌}
use mathlib.Core.List.{List, [], ◌∷◌, ◌++◌}
use Prim.Native.Nat.{ℕ, zero, suc, ◌+◌, ◌<◌}
use native.Mathlib.Nat.{suc-add, zero-add, add-zero}
use native.Mathlib.Omega.{arith}
use lib.ListN.{length, get_or}
use Rattle.lists.specs.Lists.{numbers_from}

pub numbers_from-none : (s : ℕ) → numbers_from s 0 ≡ []
unfolding numbers_from
numbers_from-none s = refl

pub numbers_from-length : (s c : ℕ) → length (numbers_from s c) ≡ c
unfolding numbers_from
numbers_from-length s zero = refl
numbers_from-length s (suc c) = ap suc (numbers_from-length (s + 1) c)

pub numbers_from-at : (s c i : ℕ) → i < c → get_or (numbers_from s c) i 0 ≡ s + i
unfolding numbers_from
numbers_from-at s zero i h = absurd (omega arith)
numbers_from-at s (suc c) zero h = omega arith
numbers_from-at s (suc c) (suc i) h = numbers_from-at (s + 1) c i (omega arith) ∙ omega arith

pub numbers_from-append : (s c d : ℕ) → numbers_from s (c + d) ≡ numbers_from s c ++ numbers_from (s + c) d
unfolding numbers_from
numbers_from-append s zero d = rw (zero-add d, add-zero s)
numbers_from-append s (suc c) d = rw (suc-add c d) (ap (λ (l : List ℕ). s ∷ l) (numbers_from-append (s + 1) c d ∙ ap (λ (n : ℕ). numbers_from (s + 1) c ++ numbers_from n d) (omega arith)))

-- One number more, at the end.
pub numbers_from-last : (s c : ℕ) → numbers_from s (c + 1) ≡ numbers_from s c ++ ((s + c) ∷ [])
unfolding numbers_from
numbers_from-last s c = numbers_from-append s c 1
