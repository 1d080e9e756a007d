-- TWICE is passed exactly where no block is mapped twice. How often an LBN is covered is a sum over the headers in use.
use mathlib.Core.Path.{◌≡◌}
use mathlib.Core.Bool.{true}
use mathlib.Core.List.{List}
use Prim.Native.Nat.{ℕ, ◌≤◌, ◌<◌}
use native.Mathlib.Decide.{dec_lt}
use native.Mathlib.Omega.{arith}
use Rattle.answer.specs.declared.refusal.Refusal.TheVariants as refusal
use Rattle.pointers.specs.Pointers.{blocks_of}
use Rattle.whole.proofs.WholeLaws.{whole-inside}
use Rattle.home.specs.Home.{blocks}
use Rattle.volume.specs.Volume.{fmax, header, fault_of, in_use}
use Rattle.lists.specs.Counts.{count}
use Rattle.lists.proofs.SumLaws.{sum_to}
use Rattle.covers.specs.Covered.{covered, covered_twice, twice_place, twice}
use Rattle.sound.specs.Sound.{Covers, Mapped}
use Rattle.sound.proofs.Tests.{Judges, s-least, j-each, j-map}
use Rattle.sound.proofs.GatherLaws.{given_by, Gives, gathered-count, gathered-has, gathered-find, gathered-apart, gathered-once}

abbrev pub Once : List ℕ → Type 0
Once image = (n p m q j : ℕ) → Covers image n p j → Covers image m q j → (n ≡ m) × (p ≡ q)

module _ (image : List ℕ) where
  pub covered-count : (j : ℕ) → count j (covered image) ≡ sum_to (fmax image) (given_by image blocks_of j)
  unfolding covered
  covered-count j = gathered-count image blocks_of j (fmax image)

  covers-gives : (n p j : ℕ) → Covers image n p j → Gives image blocks_of n p j
  covers-gives n p j c = record { used = c.used; inside = c.inside; here = c.here }

  gives-covers : (n p j : ℕ) → Gives image blocks_of n p j → Covers image n p j
  gives-covers n p j g = record { used = g.used; inside = g.inside; here = g.here }

  -- Mapped is covered.
  pub covered-has : (n p j : ℕ) → Covers image n p j → 1 ≤ count j (covered image)
  unfolding covered
  covered-has n p j c = gathered-has image blocks_of j n p (covers-gives n p j c)

  pub covered-find : (j : ℕ) → 1 ≤ count j (covered image) → Mapped image j
  unfolding covered
  covered-find j h =
      let f = gathered-find image blocks_of j h in
      record { number = f.number; place = f.place; covers = gives-covers f.number f.place j f.gives }

  pub covered-apart : ((j : ℕ) → count j (covered image) ≤ 1) → Once image
  unfolding covered
  covered-apart few n p m q j c d = gathered-apart image blocks_of j (few j) n p m q (covers-gives n p j c) (covers-gives m q j d)

  pub covered-once : Once image → (j : ℕ) → count j (covered image) ≤ 1
  unfolding covered
  covered-once once j = gathered-once image blocks_of j (λ n p m q g h. once n p m q j (gives-covers n p j g) (gives-covers m q j h))

  -- What a whole header covers lies on the volume.
  pub covers_below : ((n : ℕ) → in_use image n ≡ true → fault_of image n ≡ 0) → (n p j : ℕ) → Covers image n p j → j < blocks image
  unfolding fault_of
  covers_below whole n p j c = omega (arith, c.here, whole-inside (blocks image) n (header image n) (whole n c.used) p c.inside)

  pub twice-judges : ((n : ℕ) → in_use image n ≡ true → fault_of image n ≡ 0) → Judges (twice image) (Once image)
  unfolding twice twice_place covered_twice
  twice-judges whole =
      j-map (λ r. covered-apart (λ j. few r j (dec_lt j (blocks image)))) (λ once j a b. omega (arith, covered-once once j))
      (j-each 0 (blocks image) (blocks image) (refusal.Twice (twice_place image)) (omega arith) (λ j. s-least 2 (count j (covered image))))
    where
      none : (j : ℕ) → blocks image ≤ j → Dec (0 < count j (covered image)) → count j (covered image) ≤ 1
      none j past (yes l) =
          let f = covered-find j l in
          absurd (omega (arith, covers_below whole f.number f.place j f.covers))
      none j past (no l) = omega arith

      few : ((j : ℕ) → 0 ≤ j → j < blocks image → count j (covered image) < 2) → (j : ℕ) → Dec (j < blocks image) → count j (covered image) ≤ 1
      few r j (yes l) = omega (arith, r j (omega arith) l)
      few r j (no l) = none j (omega arith) (dec_lt 0 (count j (covered image)))
