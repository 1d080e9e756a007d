-- Laws of what the headers in use give, one after the other: how often a number stands there is a sum over the headers, so it stands there as
-- often as there are places that give it.
use mathlib.Core.Path.{◌≡◌, refl, sym, ap₂, ◌∙◌}
use mathlib.Core.Bool.{Bool, true, false, cond}
use mathlib.Core.Logic.{◌⊎◌, inl, inr}
use mathlib.Core.List.{List, []}
use Prim.Native.Nat.{ℕ, zero, suc, ◌+◌, ◌≤◌, ◌<◌}
use native.Mathlib.Decide.{dec_lt}
use native.Mathlib.Omega.{arith}
use lib.ListN.{length, get_or}
use Rattle.volume.specs.Volume.{fmax, header, in_use}
use Rattle.lists.specs.Counts.{count}
use Rattle.lists.proofs.SumLaws.{when, sum_to, sum_one, sum-apart, sum-find, Heavy, Places, sum-pair}
use Rattle.lists.proofs.CountLaws.{count_none, count-append, count_at, count-apart, count-find, count-pair}
use Rattle.slots.specs.Slots.{gathered}
use Rattle.slots.proofs.SlotLaws.{used-range}

module _ (image : List ℕ) (give : List ℕ → List ℕ) where
  -- How often number k gives x: not at all where it is not in use.
  abbrev pub given_by : ℕ → ℕ → ℕ
  given_by x k = when (in_use image k) (count x (give (header image k)))

  -- The header of n, in use, gives x at place p, from 0.
  pub record Gives (n p x : ℕ) : Type 0 where
    pub used : in_use image n ≡ true
    pub inside : p < length (give (header image n))
    pub here : get_or (give (header image n)) p 0 ≡ x

  -- Some header in use does.
  pub record Given (x : ℕ) : Type 0 where
    pub number : ℕ
    pub place : ℕ
    pub gives : Gives number place x

  pub gathered-count : (x n : ℕ) → count x (gathered image give n) ≡ sum_to n (given_by x)
  unfolding gathered sum_to
  gathered-count x zero = count_none x
  gathered-count x (suc n) =
      count-append x (gathered image give n) (cond (in_use image (suc n)) (give (header image (suc n))) [])
      ∙ ap₂ (λ (a b : ℕ). a + b) (gathered-count x n) (go (in_use image (suc n)))
    where
      go : (b : Bool) → count x (cond b (give (header image (suc n))) []) ≡ when b (count x (give (header image (suc n))))
      go true = refl
      go false = count_none x

  pub given-used : (x n : ℕ) → in_use image n ≡ true → given_by x n ≡ count x (give (header image n))
  given-used x n u = rw u

  used-given : (x n : ℕ) → 1 ≤ given_by x n → in_use image n ≡ true
  used-given x n h = go (in_use image n) h
    where
      go : (b : Bool) → 1 ≤ when b (count x (give (header image n))) → b ≡ true
      go true h = refl
      go false h = absurd (omega arith)

  gives-some : (n p x : ℕ) → Gives n p x → 1 ≤ given_by x n
  gives-some n p x g = rw (given-used x n g.used) (rw g.here at (count_at (give (header image n)) p g.inside))

  find-in : (x n : ℕ) → 1 ≤ given_by x n → (p : ℕ) × Gives n p x
  find-in x n h =
      let u = used-given x n h in
      let f = count-find x (give (header image n)) (omega (arith, given-used x n u)) in
      (f.at, record { used = u; inside = f.inside; here = f.here })

  module _ (x : ℕ) where
    abbrev all : ℕ
    all = count x (gathered image give (fmax image))

    -- What is given stands there, and what stands there is given.
    pub gathered-has : (n p : ℕ) → Gives n p x → 1 ≤ all
    gathered-has n p g =
        let r = used-range image n g.used in
        omega (arith, gathered-count x (fmax image), sum_one (fmax image) (given_by x) n r.0 r.1, gives-some n p x g)

    pub gathered-find : 1 ≤ all → Given x
    gathered-find h =
        let f = sum-find (fmax image) (given_by x) (omega (arith, gathered-count x (fmax image))) in
        let g = find-in x f.at f.here in
        record { number = f.at; place = g.0; gives = g.1 }

    -- What stands there at most once is given at one place.
    pub gathered-apart : all ≤ 1 → (n p m q : ℕ) → Gives n p x → Gives m q x → (n ≡ m) × (p ≡ q)
    gathered-apart small n p m q g k =
        let a = used-range image n g.used in
        let b = used-range image m k.used in
        let e : n ≡ m =
        sum-apart (fmax image) (given_by x) (omega (arith, gathered-count x (fmax image))) n m a.0 a.1 b.0 b.1 (gives-some n p x g) (gives-some m q x k) in
        let l = give (header image m) in
        let few : count x l ≤ 1 =
        omega (arith, gathered-count x (fmax image), sum_one (fmax image) (given_by x) m b.0 b.1, given-used x m k.used) in
        (e, count-apart l p q (rw k.here few) (rw e at g.inside) k.inside (rw e at g.here ∙ sym k.here))

    -- What is given at no two places stands there at most once.
    pub gathered-once : ((n p m q : ℕ) → Gives n p x → Gives m q x → (n ≡ m) × (p ≡ q)) → all ≤ 1
    gathered-once one = go (dec_lt 1 all)
      where
        twice : Heavy (fmax image) (given_by x) ⊎ Places (fmax image) (given_by x) → ⊥
        twice (inl h) =
            let u = used-given x h.at (omega (arith, h.here)) in
            let f = count-pair x (give (header image h.at)) (omega (arith, h.here, given-used x h.at u)) in
            omega (
              arith,
              f.less,
              (one h.at f.p h.at f.q (record { used = u; inside = omega (arith, f.less, f.inside); here = f.here }) (record {
                used = u;
                inside = f.inside;
                here = f.there;
              })).1,
            )
        twice (inr h) =
            let a = find-in x h.one h.here in
            let b = find-in x h.two h.there in
            omega (arith, h.less, (one h.one a.0 h.two b.0 a.1 b.1).0)

        go : Dec (1 < all) → all ≤ 1
        go (yes l) = absurd (twice (sum-pair (fmax image) (given_by x) (omega (arith, gathered-count x (fmax image)))))
        go (no l) = omega arith
