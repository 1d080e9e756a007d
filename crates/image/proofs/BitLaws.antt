-- Laws of the bits of a map, and of stores of bits.
use Rattle.std.proofs.Common.{◌≡◌, ℕ, zero, suc, ◌+◌, ◌-◌, ◌*◌, ◌/◌, ◌%◌, ◌^◌, ◌<◌, ◌≤◌, Bool, true, cond, ◌&&◌, eqb, ltb, leb, List, [], ◌∷◌, ◌++◌, length, get_or, sym, refl, ap, ◌∙◌, ap₂, arith, get_or-set_same, ltb-true, eq-eqb, ne_eqb, eqb-true, leb-true}
use mathlib.Core.Bool.{and-eq-true_iff}
use native.Mathlib.Nat.{zero-div}
use native.Mathlib.Decide.{ℕ_discrete}
use lib.ListN.{get_or-eq_default}
use Rattle.lists.specs.Lists.{numbers_from}
use Rattle.lists.specs.First.{below}
use Rattle.lists.proofs.BelowLaws.{below_at}
use Rattle.lists.proofs.NumbersLaws.{numbers_from-none, numbers_from-length, numbers_from-at, numbers_from-last}
use Rattle.lists.specs.Counts.{one_if}
use Rattle.image.specs.Words.{byte_at, Bytes}
use Rattle.image.specs.Blocks.{region, block}
use Rattle.image.specs.Bits.{bit_of, bit_at, is_set}
use Rattle.image.specs.Stores.{with_bit, put_bit, put_bits}
use Rattle.image.proofs.BlockLaws.{byte-region, byte-block}
use Rattle.image.proofs.StoreLaws.{Outside, Agree, agree_refl, agree_trans, agree-weaken, bit_at-agree, put_bit-agree, set-bytes}

-- A byte b with its bit k made v, and bit i of it: computed for every byte, both values and all bits.
pub record WithBit (b k v i : ℕ) : Type 0 where
  pub old : bit_of b k * 2 ^ k ≤ b
  pub new : v * 2 ^ k < 256
  pub fits : with_bit b k v < 256
  pub bit : bit_of (with_bit b k v) i ≡ cond (eqb i k) v (bit_of b i)

test : ℕ → ℕ → ℕ → ℕ → Bool
unfolding bit_of with_bit
test b k v i =
    leb (bit_of b k * 2 ^ k) b && (ltb (v * 2 ^ k) 256 && (ltb (with_bit b k v) 256 && eqb (bit_of (with_bit b k v) i) (cond (eqb i k) v (bit_of b i))))

tests : below 256 (λ b. below 8 (λ k. below 2 (λ v. below 8 (λ i. test b k v i)))) ≡ true
unfolding below test
tests = refl

pub with_bit-facts : (b k v i : ℕ) → b < 256 → k < 8 → v < 2 → i < 8 → WithBit b k v i
unfolding test
with_bit-facts b k v i hb hk hv hi =
    let at_b = below_at 256 (λ b. below 8 (λ k. below 2 (λ v. below 8 (λ i. test b k v i)))) tests b hb in
    let at-k = below_at 8 (λ k. below 2 (λ v. below 8 (λ i. test b k v i))) at_b k hk in
    let at-v = below_at 2 (λ v. below 8 (λ i. test b k v i)) at-k v hv in
    let all = below_at 8 (λ i. test b k v i) at-v i hi in
    let first = (and-eq-true_iff (leb (bit_of b k * 2 ^ k) b) _).0 all in
    let second = (and-eq-true_iff (ltb (v * 2 ^ k) 256) _).0 first.1 in
    let third = (and-eq-true_iff (ltb (with_bit b k v) 256) _).0 second.1 in
    record {
      old = leb-true (bit_of b k * 2 ^ k) b first.0;
      new = ltb-true (v * 2 ^ k) 256 second.0;
      fits = ltb-true (with_bit b k v) 256 third.0;
      bit = eqb-true (bit_of (with_bit b k v) i) (cond (eqb i k) v (bit_of b i)) third.1;
    }

-- A bit is 0 or 1, and past the end it is 0.
pub bit_below : (m : List ℕ) (j : ℕ) → bit_at m j < 2
unfolding bit_at bit_of
bit_below m j = omega arith

pub bit_past : (m : List ℕ) (j : ℕ) → length m ≤ j / 8 → bit_at m j ≡ 0
unfolding bit_at bit_of
bit_past m j h = rw (get_or-eq_default m 0 h, zero-div) refl

-- A bit of a map of several blocks is a bit of one of them.
pub bit-region : (image : List ℕ) (k q j : ℕ) → j < 4096 * q → bit_at (region image k q) j ≡ bit_at (block image (k + j / 4096)) (j % 4096)
unfolding bit_at
bit-region image k q j h =
    let byte : byte_at (region image k q) (j / 8) ≡ byte_at (block image (k + j / 4096)) (j % 4096 / 8) =
    byte-region image k q (j / 8) (omega arith) ∙ ap (byte_at image) (omega arith) ∙ sym (byte-block image (k + j / 4096) (j % 4096 / 8) (omega arith)) in
    ap₂ bit_of byte (omega arith)

-- One bit of a map.
module _ (m : List ℕ) (j v : ℕ) (inside : j / 8 < length m) (bytes : Bytes m) (is_bit : v < 2) where
  -- A bit of the byte that is stored.
  stored : (i : ℕ) → i / 8 ≡ j / 8 → bit_at (put_bit m j v) i ≡ cond (eqb (i % 8) (j % 8)) v (bit_at m i)
  unfolding bit_at put_bit
  stored i e =
      let x = with_bit (byte_at m (j / 8)) (j % 8) v in
      rw (e, get_or-set_same m (j / 8) x 0 inside) (with_bit-facts (byte_at m (j / 8)) (j % 8) v (i % 8) (bytes.each (j / 8)) (omega arith) is_bit (omega arith)).bit

  pub put_bit-same : bit_at (put_bit m j v) j ≡ v
  put_bit-same = stored j refl ∙ ap (λ (t : Bool). cond t v (bit_at m j)) (eq-eqb (j % 8) (j % 8) refl)

  pub put_bit-other : (i : ℕ) → (i ≡ j → ⊥) → bit_at (put_bit m j v) i ≡ bit_at m i
  put_bit-other i ne = go (ℕ_discrete (i / 8) (j / 8))
    where
      go : Dec (i / 8 ≡ j / 8) → bit_at (put_bit m j v) i ≡ bit_at m i
      go (yes e) = stored i e ∙ ap (λ (t : Bool). cond t v (bit_at m i)) (ne_eqb (i % 8) (j % 8) (λ k. ne (omega arith)))
      go (no n) = bit_at-agree (put_bit-agree m j v) i (λ p q. n (omega arith))

  pub put_bit-bytes : Bytes (put_bit m j v)
  unfolding put_bit
  put_bit-bytes = set-bytes (j / 8) (with_bit (byte_at m (j / 8)) (j % 8) v) (with_bit-facts (byte_at m (j / 8)) (j % 8) v 0 (bytes.each (j / 8)) (omega arith) is_bit (omega arith)).fits bytes

-- The bits of a list.

pub put_bits-none : (m : List ℕ) (v : ℕ) → put_bits m [] v ≡ m
unfolding put_bits
put_bits-none m v = refl

pub put_bits-one : (m : List ℕ) (j v : ℕ) → put_bits m (j ∷ []) v ≡ put_bit m j v
unfolding put_bits
put_bits-one m j v = refl

pub put_bits-append : (js ks m : List ℕ) (v : ℕ) → put_bits m (js ++ ks) v ≡ put_bits (put_bits m js v) ks v
unfolding put_bits
put_bits-append [] ks m v = refl
put_bits-append (j ∷ js) ks m v = put_bits-append js ks (put_bit m j v) v

-- The bytes that hold none of the bits stay, and so does the length.
pub put_bits-agree : (js m : List ℕ) (v : ℕ) → Agree (λ i. (p : ℕ) → p < length js → get_or js p 0 / 8 ≡ i → ⊥) m (put_bits m js v)
unfolding put_bits
put_bits-agree [] m v = agree_refl _ m
put_bits-agree (j ∷ js) m v =
    agree_trans
    (agree-weaken (λ i out a b. out 0 (omega arith) (omega arith)) (put_bit-agree m j v))
    (agree-weaken (λ i out p l e. out (suc p) (omega arith) e) (put_bits-agree js (put_bit m j v) v))

-- What is known of a map m in which the bits js were made v.
pub record Put (m js : List ℕ) (v : ℕ) : Type 0 where
  pub bytes : Bytes (put_bits m js v)
  pub stays : (j : ℕ) → bit_at m j ≡ v → bit_at (put_bits m js v) j ≡ v
  pub inside : (p : ℕ) → p < length js → bit_at (put_bits m js v) (get_or js p 0) ≡ v
  pub outside : (j : ℕ) → ((p : ℕ) → p < length js → get_or js p 0 ≡ j → ⊥) → bit_at (put_bits m js v) j ≡ bit_at m j

pub put_bits-put : (js m : List ℕ) (v : ℕ) → v < 2 → Bytes m → ((p : ℕ) → p < length js → get_or js p 0 / 8 < length m) → Put m js v
unfolding put_bits
put_bits-put [] m v is_bit bytes fits = record { bytes = bytes; stays = λ j e. e; inside = λ p l. absurd (omega arith); outside = λ j out. refl }
put_bits-put (k ∷ js) m v is_bit bytes fits =
    go (put_bits-put js (put_bit m k v) v is_bit (put_bit-bytes m k v fit bytes is_bit) (λ p l. omega (arith, fits (suc p) (omega arith), (put_bit-agree m k v).len)))
  where
    fit : k / 8 < length m
    fit = fits 0 (omega arith)

    go : Put (put_bit m k v) js v → Put m (k ∷ js) v
    go r = record { bytes = r.bytes; stays = stays; inside = inside; outside = outside }
      where
        stays : (j : ℕ) → bit_at m j ≡ v → bit_at (put_bits (put_bit m k v) js v) j ≡ v
        stays j e = r.stays j (one (ℕ_discrete j k))
          where
            one : Dec (j ≡ k) → bit_at (put_bit m k v) j ≡ v
            one (yes q) = rw q (put_bit-same m k v fit bytes is_bit)
            one (no q) = put_bit-other m k v fit bytes is_bit j q ∙ e

        inside : (p : ℕ) → p < length (k ∷ js) → bit_at (put_bits (put_bit m k v) js v) (get_or (k ∷ js) p 0) ≡ v
        inside zero l = r.stays k (put_bit-same m k v fit bytes is_bit)
        inside (suc p) l = r.inside p (omega arith)

        outside : (j : ℕ) → ((p : ℕ) → p < length (k ∷ js) → get_or (k ∷ js) p 0 ≡ j → ⊥) → bit_at (put_bits (put_bit m k v) js v) j ≡ bit_at m j
        outside j out =
            r.outside j (λ p l e. out (suc p) (omega arith) e) ∙ put_bit-other m k v fit bytes is_bit j (λ e. out 0 (omega arith) (sym e))

-- The bits of a run: none, and one more.
pub run_none : (m : List ℕ) (s v : ℕ) → put_bits m (numbers_from s 0) v ≡ m
run_none m s v = rw numbers_from-none (put_bits-none m v)

pub run_more : (m : List ℕ) (s i v : ℕ) → put_bits m (numbers_from s (i + 1)) v ≡ put_bit (put_bits m (numbers_from s i) v) (s + i) v
run_more m s i v = rw numbers_from-last (put_bits-append (numbers_from s i) ((s + i) ∷ []) m v ∙ put_bits-one (put_bits m (numbers_from s i) v) (s + i) v)

-- The c bits from bit s on.
module _ (m : List ℕ) (s c v : ℕ) (is_bit : v < 2) (bytes : Bytes m) (fits : (s + c + 7) / 8 ≤ length m) where
  run : Put m (numbers_from s c) v
  run =
      put_bits-put (numbers_from s c) m v is_bit bytes
      (λ p l.
      let small : p < c = omega (arith, numbers_from-length s c) in
      omega (arith, numbers_from-at s c p small))

  pub run-bytes : Bytes (put_bits m (numbers_from s c) v)
  run-bytes = run.bytes

  pub run_inside : (j : ℕ) → s ≤ j → j < s + c → bit_at (put_bits m (numbers_from s c) v) j ≡ v
  run_inside j low high =
      let e : get_or (numbers_from s c) (j - s) 0 ≡ j = numbers_from-at s c (j - s) (omega arith) ∙ omega arith in
      ap (bit_at (put_bits m (numbers_from s c) v)) (sym e) ∙ run.inside (j - s) (omega (arith, numbers_from-length s c))

  pub run-outside : (j : ℕ) → Outside s c j → bit_at (put_bits m (numbers_from s c) v) j ≡ bit_at m j
  run-outside j out =
      run.outside j
      (λ p l e.
      let small : p < c = omega (arith, numbers_from-length s c) in
      out (omega (arith, numbers_from-at s c p small)) (omega (arith, numbers_from-at s c p small)))

-- A bit is 1 exactly if it is set.
pub set-one : (map : List ℕ) (j : ℕ) → one_if (is_set map j) ≡ bit_at map j
unfolding is_set
set-one map j = go (bit_at map j) (bit_below map j)
  where
    go : (b : ℕ) → b < 2 → one_if (eqb b 1) ≡ b
    go zero h = refl
    go (suc zero) h = refl
    go (suc (suc b)) h = absurd (omega arith)

pub set_is : (map : List ℕ) (j b : ℕ) → b ≡ bit_at map j → is_set map j ≡ eqb b 1
unfolding is_set
set_is map j b e = ap (λ (x : ℕ). eqb x 1) (sym e)

-- A bit by its byte.
pub bit_in : (map : List ℕ) (k i : ℕ) → i < 8 → bit_at map (8 * k + i) ≡ bit_of (byte_at map k) i
unfolding bit_at
bit_in map k i h =
    let d : (8 * k + i) / 8 ≡ k = omega arith in
    let m : (8 * k + i) % 8 ≡ i = omega arith in
    cc
