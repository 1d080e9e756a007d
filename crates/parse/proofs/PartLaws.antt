-- That a part of a text and the codes of its words are the same characters. Assumes nothing.
use mathlib.Core.Path.{◌≡◌, refl, sym, ◌∙◌}
use mathlib.Core.Bool.{Bool, true, false, cond, ◌&&◌, and-eq-true_iff}
use mathlib.Core.List.{List, [], ◌∷◌}
use Prim.Native.Nat.{ℕ, zero, suc, ◌+◌, ◌*◌, ◌/◌, ◌%◌, ◌≤◌, ◌<◌}
use native.Mathlib.Decide.{dec_lt}
use native.Mathlib.Numerals.{add-one}
use native.Mathlib.Omega.{arith}
use borrow.Author.Tests.{eqb-true, ne_eqb}
use lib.Dec.{eqb}
use lib.ListN.{length, get_or, drop, drop_of_length-le}
use lib.Seq.{drop-cons}
use Rattle.image.specs.Words.{byte_at}
use Rattle.radix50.specs.Table.{char_of, code_of, is_name_char}
use Rattle.radix50.specs.Words.{word_of, codes}
use Rattle.names.specs.Names.{blank, filled, kept}
use Rattle.radix50.proofs.TableLaws.{coded, name-code, blank-code}
use Rattle.names.proofs.NameLaws.{blank-kept}
use Rattle.parse.specs.Parse.{Part, code_at, part_word}
use Rattle.parse.proofs.ParseLaws.{code_in, code_past, code_small}

-- ---- from codes to the part that they keep

blank-at : (cs : List ℕ) (j : ℕ) → blank cs ≡ true → get_or cs j 0 ≡ 0
unfolding blank
blank-at [] j t = refl
blank-at (c ∷ cs) zero t = eqb-true c 0 ((and-eq-true_iff (eqb c 0) (blank cs)).0 t).0
blank-at (c ∷ cs) (suc j) t = blank-at cs j ((and-eq-true_iff (eqb c 0) (blank cs)).0 t).1

-- What is known of the characters that filled codes keep.
pub record Keeps (cs : List ℕ) : Type 0 where
  pub part : Part (kept cs)
  pub code : (j : ℕ) → code_at (kept cs) j ≡ get_or cs j 0

none : (cs : List ℕ) → blank cs ≡ true → Keeps cs
unfolding code_at
none cs t = record {
  part = rw (blank-kept cs t) (record { each = λ j h. absurd (omega arith) });
  code = λ j. rw (blank-kept cs t) (blank-code ∙ sym (blank-at cs j t));
}

kept_cons : (c : ℕ) (cs : List ℕ) → eqb c 0 ≡ false → kept (c ∷ cs) ≡ char_of c ∷ kept cs
unfolding kept
kept_cons c cs e = rw e

more : (c : ℕ) (cs : List ℕ) → eqb c 0 ≡ false → is_name_char (char_of c) ≡ true → Keeps cs → Keeps (c ∷ cs)
unfolding code_at
more c cs e t k = record {
  part = rw (kept_cons c cs e) (record { each = each });
  code = λ j. rw (kept_cons c cs e) (code j);
}
  where
    each : (j : ℕ) → j < length (char_of c ∷ kept cs) → is_name_char (byte_at (char_of c ∷ kept cs) j) ≡ true
    each zero h = t
    each (suc j) h = k.part.each j (omega arith)

    code : (j : ℕ) → code_of (get_or (char_of c ∷ kept cs) j 32) ≡ get_or (c ∷ cs) j 0
    code zero = name-code c t
    code (suc j) = k.code j

pub filled_keeps : (cs : List ℕ) → filled cs ≡ true → Keeps cs
unfolding filled blank
filled_keeps [] t = none [] refl
filled_keeps (c ∷ cs) t = go (eqb c 0) refl t (filled_keeps cs)
  where
    go : (b : Bool) → eqb c 0 ≡ b → cond b (blank cs) (is_name_char (char_of c) && filled cs) ≡ true → (filled cs ≡ true → Keeps cs) → Keeps (c ∷ cs)
    go true e t rest = none (c ∷ cs) (rw e t)
    go false e t rest = more c cs e ((and-eq-true_iff (is_name_char (char_of c)) (filled cs)).0 t).0 (rest ((and-eq-true_iff (is_name_char (char_of c)) (filled cs)).0 t).1)

-- The characters that filled codes keep are those of their first codes.
pub kept-char : (cs : List ℕ) → filled cs ≡ true → (j : ℕ) → j < length (kept cs) → (get_or cs j 0 < 40) × (char_of (get_or cs j 0) ≡ byte_at (kept cs) j)
kept-char cs t j h =
    let k = filled_keeps cs t in
    let x = coded (byte_at (kept cs) j) (k.part.each j h) in
    rw (← k.code j, code_in (kept cs) j h) (x.small, x.back)

-- ---- from a part to the codes of its words

pub codes-word : (a b c : ℕ) → b < 40 → c < 40 → codes (word_of a b c) ≡ a ∷ b ∷ c ∷ []
unfolding codes word_of
codes-word a b c hb hc =
    let x : ((a * 40 + b) * 40 + c) / 1600 ≡ a = omega arith in
    let y : ((a * 40 + b) * 40 + c) / 40 % 40 ≡ b = omega arith in
    let z : ((a * 40 + b) * 40 + c) % 40 ≡ c = omega arith in
    rw (x, y, z)

pub word-codes : (w : ℕ) → word_of (w / 1600) (w / 40 % 40) (w % 40) ≡ w
unfolding word_of
word-codes w = omega arith

-- The codes of the n characters from j on.
unfoldable pub codes_from : List ℕ → ℕ → ℕ → List ℕ
codes_from p j zero = []
codes_from p j (suc n) = code_at p j ∷ codes_from p (j + 1) n

module _ (p : List ℕ) where
  pub blank-from : (j n : ℕ) → length p ≤ j → blank (codes_from p j n) ≡ true
  unfolding codes_from blank
  blank-from j zero h = refl
  blank-from j (suc n) h = rw (code_past p j h) (blank-from (j + 1) n (omega arith))

  module _ (part : Part p) where
    pub filled-from : (j n : ℕ) → filled (codes_from p j n) ≡ true
    unfolding codes_from filled
    filled-from j zero = refl
    filled-from j (suc n) = go (dec_lt j (length p)) (filled-from (j + 1) n)
      where
        go : Dec (j < length p) → filled (codes_from p (j + 1) n) ≡ true
            → cond (eqb (code_at p j) 0) (blank (codes_from p (j + 1) n)) (is_name_char (char_of (code_at p j)) && filled (codes_from p (j + 1) n)) ≡ true
        go (yes h) rest =
            let x = coded (byte_at p j) (part.each j h) in
            rw (code_in p j h, ne_eqb (code_of (byte_at p j)) 0 x.filled, x.back, part.each j h, rest)
        go (no h) rest = rw (code_past p j (omega arith)) (blank-from (j + 1) n (omega arith))

    pub kept_from : (j n : ℕ) → length p ≤ j + n → kept (codes_from p j n) ≡ drop j p
    unfolding codes_from kept
    kept_from j zero h = sym (drop_of_length-le p {i = j} (omega arith))
    kept_from j (suc n) h = go (dec_lt j (length p)) (kept_from (j + 1) n (omega arith))
      where
        go : Dec (j < length p) → kept (codes_from p (j + 1) n) ≡ drop (j + 1) p
            → cond (eqb (code_at p j) 0) (kept (codes_from p (j + 1) n)) (char_of (code_at p j) ∷ kept (codes_from p (j + 1) n)) ≡ drop j p
        go (yes l) rest =
            let x = coded (byte_at p j) (part.each j l) in
            rw (code_in p j l, ne_eqb (code_of (byte_at p j)) 0 x.filled, x.back, rest, add-one j) (sym (drop-cons p j 0 l))
        go (no l) rest =
            rw (code_past p j (omega arith), rest) (drop_of_length-le p {i = j + 1} (omega arith) ∙ sym (drop_of_length-le p {i = j} (omega arith)))

    -- The three codes of word i.
    pub part-codes : (i : ℕ) → codes (part_word p i) ≡ code_at p (3 * i) ∷ code_at p (3 * i + 1) ∷ code_at p (3 * i + 2) ∷ []
    unfolding part_word
    part-codes i =
        codes-word (code_at p (3 * i)) (code_at p (3 * i + 1)) (code_at p (3 * i + 2)) (code_small p (3 * i + 1) part) (code_small p (3 * i + 2) part)

    pub some-from : (n : ℕ) → 1 ≤ length p → blank (codes_from p 0 (suc n)) ≡ false
    unfolding codes_from blank
    some-from n h = rw (code_in p 0 h, ne_eqb (code_of (byte_at p 0)) 0 (coded (byte_at p 0) (part.each 0 h)).filled)
