-- Laws of how often a number stands in a list, and of how many numbers pass a test.
use mathlib.Core.Path.{◌≡◌, refl, sym, ap, ap₂, ◌∙◌}
use mathlib.Core.Bool.{Bool, true, false}
use mathlib.Core.List.{List, [], ◌∷◌, ◌++◌}
use Prim.Native.Nat.{ℕ, zero, suc, ◌+◌, ◌≤◌, ◌<◌}
use native.Mathlib.Decide.{ℕ_discrete, dec_lt}
use native.Mathlib.Nat.{zero-add, add-zero, add-suc, add_assoc}
use native.Mathlib.Numerals.{add-one}
use native.Mathlib.Omega.{arith}
use borrow.Author.Tests.{eq-eqb, ne_eqb}
use lib.Dec.{eqb}
use lib.ListN.{length, get_or}
use Rattle.lists.specs.Lists.{numbers_from}
use Rattle.lists.specs.Counts.{one_if, count, how_many, In}
use Rattle.lists.proofs.SumLaws.{sum_to}

pub one_if-most : (b : Bool) → one_if b ≤ 1
one_if-most true = omega arith
one_if-most false = omega arith

pub count_none : (x : ℕ) → count x [] ≡ 0
unfolding count
count_none x = refl

pub count-here : (x : ℕ) (ys : List ℕ) → count x (x ∷ ys) ≡ suc (count x ys)
unfolding count
count-here x ys = rw (eq-eqb x x refl) (omega arith)

pub count-skip : (x y : ℕ) (ys : List ℕ) → (x ≡ y → ⊥) → count x (y ∷ ys) ≡ count x ys
unfolding count
count-skip x y ys ne = rw (ne_eqb x y ne) (omega arith)

pub count-tail : (x y : ℕ) (ys : List ℕ) → count x ys ≤ count x (y ∷ ys)
unfolding count
count-tail x y ys = omega arith

pub count-append : (x : ℕ) (s t : List ℕ) → count x (s ++ t) ≡ count x s + count x t
unfolding count
count-append x [] t = omega arith
count-append x (y ∷ s) t = omega (arith, count-append x s t)

pub count_at : (l : List ℕ) (p : ℕ) → p < length l → 1 ≤ count (get_or l p 0) l
unfolding count
count_at [] p h = absurd (omega arith)
count_at (y ∷ l) zero h = omega (arith, count-here y l)
count_at (y ∷ l) (suc p) h = omega (arith, count_at l p (omega arith), count-tail (get_or l p 0) y l)

-- Two places of a list with one number.
pub count-two : (l : List ℕ) (p q : ℕ) → p < q → q < length l → get_or l p 0 ≡ get_or l q 0 → 2 ≤ count (get_or l q 0) l
count-two [] p q a b e = absurd (omega arith)
count-two (y ∷ l) zero zero a b e = absurd (omega arith)
count-two (y ∷ l) zero (suc q) a b e = rw (← e) (omega (arith, count-here y l, rw (← e) at (count_at l q (omega arith))))
count-two (y ∷ l) (suc p) zero a b e = absurd (omega arith)
count-two (y ∷ l) (suc p) (suc q) a b e = omega (arith, count-two l p q (omega arith) (omega arith) e, count-tail (get_or l q 0) y l)

-- They are one place, where the number stands there at most once.
pub count-apart : (l : List ℕ) (p q : ℕ) → count (get_or l q 0) l ≤ 1 → p < length l → q < length l → get_or l p 0 ≡ get_or l q 0 → p ≡ q
count-apart l p q small a b e = go (ℕ_discrete p q) (dec_lt p q)
  where
    go : Dec (p ≡ q) → Dec (p < q) → p ≡ q
    go (yes z) d = z
    go (no ne) (yes d) = absurd (omega (arith, count-two l p q d b e))
    go (no ne) (no d) = absurd (omega (arith, rw e at (count-two l q p (omega arith) a (sym e))))

-- A number that stands in a list has a place there.
pub record Found (x : ℕ) (l : List ℕ) : Type 0 where
  pub at : ℕ
  pub inside : at < length l
  pub here : get_or l at 0 ≡ x

pub count-find : (x : ℕ) (l : List ℕ) → 1 ≤ count x l → Found x l
unfolding count
count-find x [] h = absurd (omega arith)
count-find x (y ∷ l) h = go (count-find x l) (ℕ_discrete x y)
  where
    go : (1 ≤ count x l → Found x l) → Dec (x ≡ y) → Found x (y ∷ l)
    go rest (yes e) = record { at = 0; inside = omega arith; here = sym e }
    go rest (no ne) =
        let r : Found x l = rest (omega (arith, count-skip x y l ne)) in
        record { at = suc r.at; inside = omega (arith, r.inside); here = r.here }

-- A number that stands in a list twice has two places there, p and q.
pub record Pair (x : ℕ) (l : List ℕ) : Type 0 where
  pub p : ℕ
  pub q : ℕ
  pub less : p < q
  pub inside : q < length l
  pub here : get_or l p 0 ≡ x
  pub there : get_or l q 0 ≡ x

pub count-pair : (x : ℕ) (l : List ℕ) → 2 ≤ count x l → Pair x l
unfolding count
count-pair x [] h = absurd (omega arith)
count-pair x (y ∷ l) h = go (count-pair x l) (ℕ_discrete x y)
  where
    go : (2 ≤ count x l → Pair x l) → Dec (x ≡ y) → Pair x (y ∷ l)
    go rest (yes e) =
        let once : one_if (eqb x y) ≤ 1 = one_if-most (eqb x y) in
        let r : Found x l = count-find x l (omega arith) in
        record { p = 0; q = suc r.at; less = omega arith; inside = omega (arith, r.inside); here = sym e; there = r.here }
    go rest (no ne) =
        let r : Pair x l = rest (omega (arith, count-skip x y l ne)) in
        record { p = suc r.p; q = suc r.q; less = omega (arith, r.less); inside = omega (arith, r.inside); here = r.here; there = r.there }

-- No number from k on stands in a list of numbers below k.
pub count-in-below : (k : ℕ) (l : List ℕ) → ((i : ℕ) → i < length l → get_or l i 0 < k) → (x : ℕ) → k ≤ x → count x l ≡ 0
count-in-below k l h x a = go (dec_lt 0 (count x l))
  where
    go : Dec (0 < count x l) → count x l ≡ 0
    go (yes c) =
        let r : Found x l = count-find x l c in
        absurd (omega (arith, h r.at r.inside, r.here))
    go (no c) = omega arith

-- The c numbers from s on.

pub count-numbers-out : (s c x : ℕ) → (s ≤ x → x < s + c → ⊥) → count x (numbers_from s c) ≡ 0
unfolding numbers_from count
count-numbers-out s zero x out = refl
count-numbers-out s (suc c) x out =
    omega (arith, count-skip x s (numbers_from (s + 1) c) (λ e. out (omega arith) (omega arith)), count-numbers-out (s + 1) c x (λ p q. out (omega arith) (omega arith)))

pub count-numbers-in : (s c x : ℕ) → s ≤ x → x < s + c → count x (numbers_from s c) ≡ 1
unfolding numbers_from
count-numbers-in s zero x p q = absurd (omega arith)
count-numbers-in s (suc c) x p q = go (λ r. count-numbers-in (s + 1) c x r (omega arith)) (ℕ_discrete x s)
  where
    go : (s + 1 ≤ x → count x (numbers_from (s + 1) c) ≡ 1) → Dec (x ≡ s) → count x (s ∷ numbers_from (s + 1) c) ≡ 1
    go rest (yes e) = rw e (omega (arith, count-here s (numbers_from (s + 1) c), count-numbers-out (s + 1) c s (λ r t. omega arith)))
    go rest (no ne) = omega (arith, count-skip x s (numbers_from (s + 1) c) ne, rest (omega arith))

-- Lists one after the other: f 1, .., f n.
unfoldable pub concat_to : ℕ → (ℕ → List ℕ) → List ℕ
concat_to zero f = []
concat_to (suc n) f = concat_to n f ++ f (suc n)

-- How often x stands there is a sum.
pub count-concat : (x n : ℕ) (f : ℕ → List ℕ) → count x (concat_to n f) ≡ sum_to n (λ k. count x (f k))
unfolding concat_to sum_to
count-concat x zero f = count_none x
count-concat x (suc n) f = count-append x (concat_to n f) (f (suc n)) ∙ ap (λ (a : ℕ). a + count x (f (suc n))) (count-concat x n f)

-- How many of the d numbers from s on pass a test.

pub how_many-none : (p : ℕ → Bool) (s : ℕ) → how_many p s 0 ≡ 0
unfolding how_many
how_many-none p s = refl

pub how_many-more : (p : ℕ → Bool) (s d : ℕ) → how_many p s (d + 1) ≡ how_many p s d + one_if (p (s + d))
unfolding how_many
how_many-more p s d = rw (add-one d)

pub how_many-next : (p : ℕ → Bool) (d : ℕ) → how_many p 0 (d + 1) ≡ how_many p 0 d + one_if (p d)
how_many-next p d = how_many-more p 0 d ∙ ap (λ (k : ℕ). how_many p 0 d + one_if (p k)) (zero-add d)

pub how_many-same : (p q : ℕ → Bool) (s d : ℕ) → ((i : ℕ) → s ≤ i → i < s + d → p i ≡ q i) → how_many p s d ≡ how_many q s d
unfolding how_many
how_many-same p q s zero h = refl
how_many-same p q s (suc d) h =
    ap₂ (λ (a : ℕ) (b : Bool). a + one_if b) (how_many-same p q s d (λ i a b. h i a (omega arith))) (h (s + d) (omega arith) (omega arith))

pub how_many-most : (p : ℕ → Bool) (s d : ℕ) → how_many p s d ≤ d
unfolding how_many
how_many-most p s zero = omega arith
how_many-most p s (suc d) = omega (arith, how_many-most p s d, one_if-most (p (s + d)))

-- Two tests of which exactly one passes at each number.
pub how_many-both : (p q : ℕ → Bool) (s n : ℕ) → ((j : ℕ) → j < n → one_if (p (s + j)) + one_if (q (s + j)) ≡ 1) → how_many p s n + how_many q s n ≡ n
unfolding how_many
how_many-both p q s zero h = refl
how_many-both p q s (suc n) h = omega (arith, how_many-both p q s n (λ j l. h j (omega arith)), h n (omega arith))

-- Numbers that fail add nothing.
pub how_many-past : (p : ℕ → Bool) (s n d : ℕ) → ((j : ℕ) → s + n ≤ j → j < s + n + d → p j ≡ false) → how_many p s (n + d) ≡ how_many p s n
unfolding how_many
how_many-past p s n zero h = ap (how_many p s) (add-zero n)
how_many-past p s n (suc d) h =
    let e : n + suc d ≡ suc (n + d) = omega arith in
    let f : p (s + (n + d)) ≡ false = h (s + (n + d)) (omega arith) (omega arith) in
    rw (e, f) (omega (arith, how_many-past p s n d (λ j a b. h j a (omega arith))))

-- Two ranges, one after the other.
pub how_many-append : (p : ℕ → Bool) (s n d : ℕ) → how_many p s (n + d) ≡ how_many p s n + how_many p (s + n) d
unfolding how_many
how_many-append p s n zero = ap (how_many p s) (add-zero n) ∙ sym (add-zero (how_many p s n))
how_many-append p s n (suc d) =
    let e : s + (n + d) ≡ s + n + d = omega arith in
    ap (how_many p s) (add-suc n d) ∙ ap₂ (λ (a k : ℕ). a + one_if (p k)) (how_many-append p s n d) e ∙ add_assoc (how_many p s n) (how_many p (s + n) d) (one_if (p (s + n + d)))

-- A number of a list whose numbers lie below k lies below k.
pub in-below : (k : ℕ) (l : List ℕ) → ((i : ℕ) → i < length l → get_or l i 0 < k) → (x : ℕ) → In x l → x < k
in-below k l below x i = go (dec_lt x k)
  where
    go : Dec (x < k) → x < k
    go (yes m) = m
    go (no m) = absurd (omega (arith, count-in-below k l below x (omega arith)))
