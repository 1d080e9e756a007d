-- That the decimal digits of a number write that number, and that digits without leading zero are those of their number. Assumes nothing.
use mathlib.Core.Path.{◌≡◌, refl, sym, ap₂, ◌∙◌}
use mathlib.Core.Bool.{Bool, true, not, ◌&&◌, and-eq-true_iff}
use mathlib.Core.List.{List, [], ◌∷◌, ◌++◌}
use Prim.Native.Nat.{ℕ, zero, suc, ◌+◌, ◌*◌, ◌-◌, ◌/◌, ◌%◌, ◌^◌, ◌≤◌, ◌<◌}
use native.Mathlib.Nat.{pow-suc}
use native.Mathlib.Decide.{dec_lt}
use native.Mathlib.Omega.{arith}
use borrow.Author.Tests.{eqb-false, ne_eqb, leb-true, le-leb, not-true}
use lib.Dec.{eqb, leb}
use lib.ListN.{length, take, length-append, get_or-append}
use lib.Seq.{take-suc, take-length, get_or-append_seam}
use Rattle.image.specs.Words.{byte_at}
use Rattle.radix50.specs.Table.{is_digit}
use Rattle.text.specs.Text.{digits, decimal}
use Rattle.parse.specs.Parse.{value_to, digits_to, is_version}
use Rattle.text.proofs.TextLaws.{digits-one, digits_more, digits-most}
use Rattle.parse.proofs.ParseLaws.{digit-in, value-more, digits-to-more}

-- ---- the digits of a number

value-append : (s u : List ℕ) (k : ℕ) → k ≤ length s → value_to (s ++ u) k ≡ value_to s k
unfolding value_to
value-append s u zero h = refl
value-append s u (suc k) h =
    ap₂ (λ (v x : ℕ). 10 * v + (x - 48)) (value-append s u k (omega arith)) (get_or-append s u 0 k (omega arith))

digits-to-append : (s u : List ℕ) (k : ℕ) → k ≤ length s → digits_to (s ++ u) k ≡ digits_to s k
unfolding digits_to
digits-to-append s u zero h = refl
digits-to-append s u (suc k) h =
    ap₂ (λ (b : Bool) (x : ℕ). b && is_digit x) (digits-to-append s u k (omega arith)) (get_or-append s u 0 k (omega arith))

-- d is a number's digits: it writes v, in digits, without leading zero.
pub record Writes (d : List ℕ) (v : ℕ) : Type 0 where
  pub some : 1 ≤ length d
  pub value : value_to d (length d) ≡ v
  pub all : digits_to d (length d) ≡ true
  pub lead : 1 ≤ v → byte_at d 0 ≡ 48 → ⊥

writes_one : (v : ℕ) → v < 10 → Writes ((48 + v) ∷ []) v
unfolding value_to digits_to
writes_one v h = record {
  some = omega arith;
  value = omega arith;
  all = digit-in (48 + v) (omega arith) (omega arith);
  lead = λ a e. omega arith;
}

writes_more : (d : List ℕ) (v x : ℕ) → x < 10 → 1 ≤ v → Writes d v → Writes (d ++ ((48 + x) ∷ [])) (10 * v + x)
writes_more d v x h p w =
    let l = d ++ ((48 + x) ∷ []) in
    let e : length l ≡ length d + 1 = length-append d ((48 + x) ∷ []) in
    let last : byte_at l (length d) ≡ 48 + x = get_or-append_seam d (48 + x) [] 0 in
    record {
      some = omega arith;
      value = rw e (value-more l (length d) ∙ omega (arith, value-append d ((48 + x) ∷ []) (length d) (omega arith), w.value, last));
      all =
          rw (e, digits-to-more l (length d), digits-to-append d ((48 + x) ∷ []) (length d) (omega arith), w.all, last)
          (digit-in (48 + x) (omega arith) (omega arith));
      lead = λ a z. w.lead p (sym (get_or-append d ((48 + x) ∷ []) 0 0 w.some) ∙ z);
    }

pub digits-write : (k v : ℕ) → v < 10 ^ suc k → Writes (digits (suc k) v) v
digits-write zero v h = rw (digits-one 0 v h) (writes_one v h)
digits-write (suc k) v h = go (dec_lt v 10) (digits-write k (v / 10) (omega (arith, pow-suc 10 (suc k))))
  where
    go : Dec (v < 10) → Writes (digits (suc k) (v / 10)) (v / 10) → Writes (digits (suc (suc k)) v) v
    go (yes l) w = rw (digits-one (suc k) v l) (writes_one v l)
    go (no l) w =
        let e : 10 * (v / 10) + v % 10 ≡ v = omega arith in
        rw (digits_more (suc k) v (omega arith)) (rw e at (writes_more (digits (suc k) (v / 10)) (v / 10) (v % 10) (omega arith) (omega arith) w))

-- ---- the number of digits

digit-range : (x : ℕ) → is_digit x ≡ true → (48 ≤ x) × (x ≤ 57)
unfolding is_digit
digit-range x t = (leb-true 48 x ((and-eq-true_iff (leb 48 x) (leb x 57)).0 t).0, leb-true x 57 ((and-eq-true_iff (leb 48 x) (leb x 57)).0 t).1)

module _ (d : List ℕ) (lead : byte_at d 0 ≡ 48 → ⊥) where
  -- The first k + 1 digits write a number from 1 on, whose digits they are.
  record Digits (k f : ℕ) : Type 0 where
    big : 1 ≤ value_to d (suc k)
    same : digits f (value_to d (suc k)) ≡ take (suc k) d

  digits-back : (k f : ℕ) → k < length d → k < f → digits_to d (suc k) ≡ true → Digits k f
  unfolding value_to digits_to
  digits-back k zero h r t = absurd (omega arith)
  digits-back zero (suc f) h r t =
      let range = digit-range (byte_at d 0) t in
      let e : 48 + (10 * 0 + (byte_at d 0 - 48)) ≡ byte_at d 0 = omega arith in
      record {
        big = omega arith;
        same = digits-one f (10 * 0 + (byte_at d 0 - 48)) (omega arith) ∙ rw e (sym (take-suc d 0 0 h));
      }
  digits-back (suc k) (suc f) h r t =
      let x = byte_at d (suc k) in
      let v = value_to d (suc k) in
      let range = digit-range x ((and-eq-true_iff (digits_to d (suc k)) (is_digit x)).0 t).1 in
      let b = digits-back k f (omega arith) (omega arith) ((and-eq-true_iff (digits_to d (suc k)) (is_digit x)).0 t).0 in
      let tenth : (10 * v + (x - 48)) / 10 ≡ v = omega (arith, b.big) in
      let last : 48 + (10 * v + (x - 48)) % 10 ≡ x = omega (arith, b.big) in
      record {
        big = omega (arith, b.big);
        same = digits_more f (10 * v + (x - 48)) (omega (arith, b.big)) ∙ rw (tenth, last, b.same) (sym (take-suc d (suc k) 0 h));
      }

-- ---- versions

pub decimal-version : (v : ℕ) → 1 ≤ v → v ≤ 32767 → is_version (decimal v) ≡ true
unfolding is_version decimal
decimal-version v a b =
    let d = digits 5 v in
    let w = digits-write 4 v (omega arith) in
    rw (le-leb 1 (length d) w.some, le-leb (length d) 5 (digits-most 5 v), w.all, ne_eqb (byte_at d 0) 48 (w.lead a), w.value, le-leb v 32767 b)

pub decimal-value : (v : ℕ) → v ≤ 32767 → value_to (decimal v) (length (decimal v)) ≡ v
unfolding decimal
decimal-value v b = (digits-write 4 v (omega arith)).value

-- What is known of a version's text: the number that it writes, whose digits it is.
pub record Version (d : List ℕ) : Type 0 where
  pub least : 1 ≤ value_to d (length d)
  pub most : value_to d (length d) ≤ 32767
  pub same : decimal (value_to d (length d)) ≡ d

pub version-is : (d : List ℕ) → is_version d ≡ true → Version d
unfolding is_version decimal
version-is d t =
    let n = length d in
    let small = leb n 5 in
    let all = digits_to d n in
    let lead = not (eqb (byte_at d 0) 48) in
    let low = leb (value_to d n) 32767 in
    let t₄ = ((and-eq-true_iff (leb 1 n && small && all && lead) low).0 t).0 in
    let t₃ = ((and-eq-true_iff (leb 1 n && small && all) lead).0 t₄).0 in
    let t₂ = ((and-eq-true_iff (leb 1 n && small) all).0 t₃).0 in
    let some = leb-true 1 n ((and-eq-true_iff (leb 1 n) small).0 t₂).0 in
    let few = leb-true n 5 ((and-eq-true_iff (leb 1 n) small).0 t₂).1 in
    let e : suc (n - 1) ≡ n = omega arith in
    let digit = rw (← e) at ((and-eq-true_iff (leb 1 n && small) all).0 t₃).1 in
    let b = digits-back d (eqb-false (byte_at d 0) 48 (not-true (eqb (byte_at d 0) 48) ((and-eq-true_iff (leb 1 n && small && all) lead).0 t₄).1)) (n - 1) 5 (omega arith) (omega arith) digit in
    record {
      least = rw e at b.big;
      most = leb-true (value_to d n) 32767 ((and-eq-true_iff (leb 1 n && small && all && lead) low).0 t).1;
      same = (rw e at b.same) ∙ take-length d;
    }
