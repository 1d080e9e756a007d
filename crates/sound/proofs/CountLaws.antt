-- The verdict's counts: of each block either the LBN is covered or the bit is set, and no bit from N on is set, so the two add up to N.
use mathlib.Core.Path.{◌≡◌, ap, ◌∙◌}
use mathlib.Core.Bool.{false}
use mathlib.Core.List.{List}
use Prim.Native.Nat.{ℕ, ◌+◌, ◌-◌, ◌≤◌, ◌<◌}
use native.Mathlib.Decide.{dec_lt}
use native.Mathlib.Omega.{arith}
use borrow.Author.Tests.{eq-eqb, ne_eqb, le-leb, lt-leb}
use Rattle.image.specs.Bits.{bit_at, is_set}
use Rattle.home.specs.Home.{blocks}
use Rattle.volume.specs.Volume.{storage_map, map_bits}
use Rattle.lists.specs.Counts.{one_if, count, how_many}
use Rattle.lists.proofs.CountLaws.{how_many-both, how_many-past}
use Rattle.covers.specs.Covered.{covered}
use Rattle.verdict.specs.Verdict.{is_covered, claimed, free}
use Rattle.sound.specs.Sound.{Sound}
use Rattle.sound.specs.Claims.{CountsAdd}
use Rattle.sound.proofs.CoverLaws.{covered-has, covered-find}
use Rattle.sound.proofs.MapLaws.{bits-enough}

module _ (image : List ℕ) (s : Sound image) where
  -- Exactly one of the two.
  one_of : (j : ℕ) → j < blocks image → one_if (is_covered (covered image) j) + one_if (is_set (storage_map image) j) ≡ 1
  unfolding is_covered is_set
  one_of j l = go (dec_lt 0 (count j (covered image)))
    where
      go : Dec (0 < count j (covered image)) → one_if (is_covered (covered image) j) + one_if (is_set (storage_map image) j) ≡ 1
      go (yes c) =
          let z = s.mapped j l (covered-find image j c) in
          rw (le-leb 1 (count j (covered image)) c, ne_eqb (bit_at (storage_map image) j) 1 (λ e. omega arith))
      go (no c) =
          let o = s.unmapped j l (λ m. c (covered-has image m.number m.place j m.covers)) in
          rw (lt-leb 1 (count j (covered image)) (omega arith), eq-eqb (bit_at (storage_map image) j) 1 o)

  clear-past : (j : ℕ) → blocks image ≤ j → j < map_bits (blocks image) → is_set (storage_map image) j ≡ false
  unfolding is_set
  clear-past j l h = ne_eqb (bit_at (storage_map image) j) 1 (λ e. omega (arith, s.beyond j l h))

  free-below : free image ≡ how_many (is_set (storage_map image)) 0 (blocks image)
  unfolding free
  free-below =
      let n = blocks image in
      let d = map_bits n - n in
      let e : map_bits n ≡ n + d = omega (arith, bits-enough image) in
      ap (how_many (is_set (storage_map image)) 0) e
      ∙ how_many-past (is_set (storage_map image)) 0 n d (λ j a b. clear-past j (omega arith) (omega arith))

  pub counts-add : claimed image + free image ≡ blocks image
  unfolding claimed
  counts-add =
      let all = how_many-both (is_covered (covered image)) (is_set (storage_map image)) 0 (blocks image) (λ j l. one_of (0 + j) (omega arith)) in
      omega (arith, free-below)

pub counts : CountsAdd
counts = counts-add
