-- MAP is passed exactly where the storage map marks free exactly the unmapped blocks.
use mathlib.Core.Path.{◌≡◌, refl}
use mathlib.Core.Bool.{Bool, true, false, false≢true, ◌&&◌}
use mathlib.Core.List.{List}
use Prim.Native.Nat.{ℕ, ◌≤◌, ◌<◌}
use native.Mathlib.Decide.{dec_lt}
use native.Mathlib.Omega.{arith}
use lib.Dec.{eqb, ltb}
use Rattle.image.specs.Bits.{bit_at}
use Rattle.answer.specs.declared.refusal.Refusal.TheVariants as refusal
use Rattle.home.specs.Home.{blocks}
use Rattle.volume.specs.Volume.{map_blocks, storage_map, map_bits}
use Rattle.lists.specs.Counts.{one_if, count}
use Rattle.covers.specs.Covered.{covered, wrong_bit, map_place, bad_map}
use Rattle.sound.specs.Sound.{Mapped}
use Rattle.sound.proofs.Tests.{Tests, Spares, Judges, t-eq, t-lt, t-and, t-map, s-not, j-each, j-map}
use Rattle.sound.proofs.CoverLaws.{covered-has, covered-find}

pub record MapSound (image : List ℕ) : Type 0 where
  pub unmapped : (j : ℕ) → j < blocks image → (Mapped image j → ⊥) → bit_at (storage_map image) j ≡ 1
  pub mapped : (j : ℕ) → j < blocks image → Mapped image j → bit_at (storage_map image) j ≡ 0
  pub beyond : (j : ℕ) → blocks image ≤ j → j < map_bits (blocks image) → bit_at (storage_map image) j ≡ 0

module _ (image : List ℕ) where
  -- Bit j of the storage map is right.
  record MapBit (j : ℕ) : Type 0 where
    unmapped : j < blocks image → (Mapped image j → ⊥) → bit_at (storage_map image) j ≡ 1
    mapped : j < blocks image → Mapped image j → bit_at (storage_map image) j ≡ 0
    beyond : blocks image ≤ j → bit_at (storage_map image) j ≡ 0

  abbrev bit : ℕ → ℕ
  bit j = bit_at (storage_map image) j

  bit_is : (j : ℕ) (b : Bool) → Tests b ((j < blocks image) × (count j (covered image) ≡ 0)) → Tests (eqb (bit j) (one_if b)) (MapBit j)
  bit_is j true t =
      let r = t.yields refl in
      t-map
      (λ e. record {
        unmapped = λ l n. e;
        mapped = λ l m. absurd (omega (arith, covered-has image m.number m.place j m.covers));
        beyond = λ l. absurd (omega arith);
      })
      (λ m. m.unmapped r.0 (λ p. omega (arith, covered-has image p.number p.place j p.covers))) (t-eq (bit j) 1)
  bit_is j false t =
      t-map
      (λ e. record { unmapped = λ l n. absurd (free l n (dec_lt 0 (count j (covered image)))); mapped = λ l m. e; beyond = λ l. e })
      (λ m. clear m (dec_lt j (blocks image)) (dec_lt 0 (count j (covered image)))) (t-eq (bit j) 0)
    where
      free : j < blocks image → (Mapped image j → ⊥) → Dec (0 < count j (covered image)) → ⊥
      free l n (yes c) = n (covered-find image j c)
      free l n (no c) = false≢true (t.holds (l, omega arith))

      clear : MapBit j → Dec (j < blocks image) → Dec (0 < count j (covered image)) → bit j ≡ 0
      clear m (yes l) (yes c) = m.mapped l (covered-find image j c)
      clear m (yes l) (no c) = absurd (false≢true (t.holds (l, omega arith)))
      clear m (no l) c = m.beyond (omega arith)

  pub bits-enough : blocks image ≤ map_bits (blocks image)
  unfolding map_bits map_blocks
  bits-enough = omega arith

  bit-spared : (j : ℕ) → Spares (wrong_bit (storage_map image) (covered image) (blocks image) j) (MapBit j)
  unfolding wrong_bit
  bit-spared j =
      s-not (bit_is j (ltb j (blocks image) && eqb (count j (covered image)) 0) (t-and (t-lt j (blocks image)) (t-eq (count j (covered image)) 0)))

  pub map-judges : Judges (bad_map image) (MapSound image)
  unfolding bad_map map_place
  map-judges =
      j-map
      (λ r. record {
        unmapped = λ j l. (r j (omega arith) (omega (arith, bits-enough))).unmapped l;
        mapped = λ j l. (r j (omega arith) (omega (arith, bits-enough))).mapped l;
        beyond = λ j l h. (r j (omega arith) h).beyond l;
      })
      (λ m j a b. record { unmapped = m.unmapped j; mapped = m.mapped j; beyond = λ l. m.beyond j l b })
      (j-each 0 (map_bits (blocks image)) (map_bits (blocks image)) (refusal.Map (map_place image)) (omega arith) bit-spared)
