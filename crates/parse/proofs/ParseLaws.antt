-- Laws of the parts of a text: runs of capitals and digits, their codes, and the digits of a version. Assumes nothing.
use mathlib.Core.Path.{◌≡◌, refl, sym, ap, ◌∙◌}
use mathlib.Core.Bool.{true, false, not, ◌&&◌, and-false}
use mathlib.Core.List.{List, [], ◌∷◌, ◌++◌}
use Prim.Native.Nat.{ℕ, zero, suc, ◌+◌, ◌*◌, ◌-◌, ◌≤◌, ◌<◌}
use native.Mathlib.Decide.{ℕ_discrete, dec_lt}
use native.Mathlib.Numerals.{add-one}
use native.Mathlib.Omega.{arith}
use borrow.Author.Tests.{le-leb, lt-leb, not-false}
use lib.ListN.{length, get_or, take, length-append, get_or-append, get_or-eq_default}
use lib.Seq.{length-take-le, get_or-take, get_or-append_seam}
use Rattle.image.specs.Words.{byte_at}
use Rattle.std.specs.List.{prefix_len}
use Rattle.std.proofs.lemmas.List.Sums.{prefix_len-le-length, prefix_len_passes, prefix_len_stops}
use Rattle.lists.proofs.FirstLaws.{first-has, first-is}
use Rattle.radix50.specs.Table.{code_of, is_digit, is_name_char}
use Rattle.radix50.proofs.TableLaws.{coded, blank-code}
use Rattle.parse.specs.Parse.{ends_at, span, Part, code_at, value_to, digits_to}

-- ---- the run at the start

pub span_most : (t : List ℕ) → span t ≤ length t
unfolding span
span_most t = omega (arith, (first-has (ends_at t) 0 (length t)).high)

pub span_part : (t : List ℕ) → Part (take (span t) t)
unfolding span ends_at
span_part t = record {
  each = λ j h.
      let l : j < span t = omega (arith, length-take-le (span t) t (span_most t)) in
      rw (get_or-take (span t) t j 0 l) (not-false (is_name_char (byte_at t j)) ((first-has (ends_at t) 0 (length t)).before j (omega arith) l));
}

-- The run as std has it.
pub prefix_len_span : (t : List ℕ) → prefix_len is_name_char t ≡ span t
unfolding span ends_at
prefix_len_span t =
    sym (first-is (ends_at t) 0 (length t) (prefix_len is_name_char t) (record {
      low = omega arith;
      high = omega (arith, prefix_len-le-length is_name_char t);
      before = λ i a h. ap not (prefix_len_passes is_name_char t i 0 h);
      here = λ h. ap not (prefix_len_stops is_name_char t 0 (omega arith));
    }))

-- A run of capitals and digits that another character ends.
pub span-is : (p : List ℕ) (x : ℕ) (s : List ℕ) → Part p → is_name_char x ≡ false → span (p ++ (x ∷ s)) ≡ length p
unfolding span ends_at
span-is p x s part ends =
    let t = p ++ (x ∷ s) in
    first-is (ends_at t) 0 (length t) (length p) (record {
      low = omega arith;
      high = omega (arith, length-append p (x ∷ s));
      before = λ i a h. rw (get_or-append p (x ∷ s) 0 i h, part.each i h);
      here = λ h. rw (get_or-append_seam p x s 0, ends);
    })

-- ---- the codes of a part

get_d_any : (l : List ℕ) (j a b : ℕ) → j < length l → get_or l j a ≡ get_or l j b
get_d_any [] j a b h = absurd (omega arith)
get_d_any (x ∷ l) zero a b h = refl
get_d_any (x ∷ l) (suc j) a b h = get_d_any l j a b (omega arith)

module _ (p : List ℕ) (j : ℕ) where
  pub code_in : j < length p → code_at p j ≡ code_of (byte_at p j)
  unfolding code_at
  code_in h = ap code_of (get_d_any p j 32 0 h)

  pub code_past : length p ≤ j → code_at p j ≡ 0
  unfolding code_at
  code_past h = ap code_of (get_or-eq_default p 32 h) ∙ blank-code

  pub code_small : Part p → code_at p j < 40
  code_small part = go (dec_lt j (length p))
    where
      go : Dec (j < length p) → code_at p j < 40
      go (yes h) = rw (code_in h) (coded (byte_at p j) (part.each j h)).small
      go (no h) = rw (code_past (omega arith)) (omega arith)

-- ---- the digits of a version

pub digit-in : (x : ℕ) → 48 ≤ x → x ≤ 57 → is_digit x ≡ true
unfolding is_digit
digit-in x a b = rw (le-leb 48 x a, le-leb x 57 b)

pub digit_low : (x : ℕ) → x < 48 → is_digit x ≡ false
unfolding is_digit
digit_low x h = rw (lt-leb 48 x h)

pub digit-high : (x : ℕ) → 57 < x → is_digit x ≡ false
unfolding is_digit
digit-high x h = rw (lt-leb x 57 h, and-false)

module _ (d : List ℕ) where
  pub value_none : value_to d 0 ≡ 0
  unfolding value_to
  value_none = refl

  pub value-more : (i : ℕ) → value_to d (i + 1) ≡ 10 * value_to d i + (byte_at d i - 48)
  unfolding value_to
  value-more i = rw (add-one i)

  pub digits-to-none : digits_to d 0 ≡ true
  unfolding digits_to
  digits-to-none = refl

  pub digits-to-more : (i : ℕ) → digits_to d (i + 1) ≡ (digits_to d i && is_digit (byte_at d i))
  unfolding digits_to
  digits-to-more i = rw (add-one i)

  pub digits-to-fails : (n i : ℕ) → i < n → is_digit (byte_at d i) ≡ false → digits_to d n ≡ false
  unfolding digits_to
  digits-to-fails zero i h f = absurd (omega arith)
  digits-to-fails (suc n) i h f = go (ℕ_discrete i n) (λ l. digits-to-fails n i l f)
    where
      go : Dec (i ≡ n) → (i < n → digits_to d n ≡ false) → (digits_to d n && is_digit (byte_at d n)) ≡ false
      go (yes e) rest = rw (← e, f, and-false)
      go (no ne) rest = rw (rest (omega arith))
