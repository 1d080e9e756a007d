-- Laws of the text of a name, as it is written character by character. Assumes nothing.
use mathlib.Core.Path.{◌≡◌, refl, sym, ap, ◌∙◌}
use mathlib.Core.Bool.{Bool, true, false, cond}
use mathlib.Core.List.{List, [], ◌∷◌, ◌++◌}
use Prim.Native.Nat.{ℕ, zero, suc, ◌+◌, ◌/◌, ◌%◌, ◌^◌, ◌≤◌, ◌<◌}
use native.Mathlib.Nat.{pow-suc}
use native.Mathlib.Decide.{dec_lt}
use native.Mathlib.Omega.{arith}
use borrow.Author.Tests.{lt-ltb, le-ltb}
use lib.Dec.{ltb}
use lib.ListN.{length, get_or, take, length-append}
use lib.Seq.{take_at, take-take, get_or_at, get_or-take, length-take-le}
use Rattle.image.specs.Stores.{splice}
use Rattle.image.proofs.StoreLaws.{splice-none, splice-splice}
use Rattle.answer.specs.declared.types.Name.{Name}
use Rattle.radix50.specs.Words.{codes}
use Rattle.names.specs.Names.{name_codes}
use Rattle.names.proofs.NameLaws.{kept-most}
use Rattle.names.proofs.ProperLaws.{proper-parts}
use Rattle.text.specs.Text.{digits, decimal, text_of, name_text}

-- ---- what is written behind what was written

-- What is written right behind s.
pub splice-on : {x : List ℕ} {to : ℕ} (b : List ℕ) (at : ℕ) (s u : List ℕ) → at ≤ length b → x ≡ splice b at s → to ≡ at + length s → splice x to u ≡ splice b at (s ++ u)
splice-on b at s u h e f = rw (e, f) (splice-splice b at s h u)

-- The buffer x is the buffer b with s from its start on, and `to` is the place behind s.
pub record Wrote (b s x : List ℕ) (to : ℕ) : Type 0 where
  pub text : x ≡ splice b 0 s
  pub place : to ≡ length s

pub wrote_none : (b : List ℕ) → Wrote b [] b 0
wrote_none b = record { text = sym (splice-none b 0); place = refl }

pub wrote_on : {b s x y : List ℕ} {to next : ℕ} (u : List ℕ) → Wrote b s x to → y ≡ splice x to u → next ≡ to + length u → Wrote b (s ++ u) y next
wrote_on {b} {s} u w e f = record {
  text = e ∙ splice-on b 0 s u (omega arith) w.text (omega (arith, w.place));
  place = omega (arith, w.place, length-append s u);
}

-- ---- decimal digits

pub digits-most : (k v : ℕ) → length (digits k v) ≤ k
unfolding digits
digits-most zero v = omega arith
digits-most (suc k) v = go (ltb v 10) (digits-most k (v / 10))
  where
    go : (b : Bool) → length (digits k (v / 10)) ≤ k → length (cond b ((48 + v) ∷ []) (digits k (v / 10) ++ ((48 + v % 10) ∷ []))) ≤ suc k
    go true h = omega arith
    go false h = omega (arith, length-append (digits k (v / 10)) ((48 + v % 10) ∷ []))

pub digits-one : (k v : ℕ) → v < 10 → digits (suc k) v ≡ (48 + v) ∷ []
unfolding digits
digits-one k v h = rw (lt-ltb v 10 h)

pub digits_more : (k v : ℕ) → 10 ≤ v → digits (suc k) v ≡ digits k (v / 10) ++ ((48 + v % 10) ∷ [])
unfolding digits
digits_more k v h = rw (le-ltb v 10 h)

-- Room for one digit more than a number has changes nothing.
pub digits-room : (k v : ℕ) → v < 10 ^ suc k → digits (suc (suc k)) v ≡ digits (suc k) v
digits-room zero v h = digits-one 1 v h ∙ sym (digits-one 0 v h)
digits-room (suc k) v h = go (dec_lt v 10) (digits-room k (v / 10) (omega (arith, pow-suc 10 (suc k))))
  where
    go : Dec (v < 10) → digits (suc (suc k)) (v / 10) ≡ digits (suc k) (v / 10) → digits (suc (suc (suc k))) v ≡ digits (suc (suc k)) v
    go (yes l) e = digits-one (suc (suc k)) v l ∙ sym (digits-one (suc k) v l)
    go (no l) e =
        digits_more (suc (suc k)) v (omega arith)
        ∙ ap (λ (s : List ℕ). s ++ ((48 + v % 10) ∷ [])) e
        ∙ sym (digits_more (suc k) v (omega arith))

-- ---- a version's digits

pub decimal-one : (v : ℕ) → v < 10 → decimal v ≡ (48 + v) ∷ []
unfolding decimal
decimal-one v h = digits-one 4 v h

pub decimal-more : (v : ℕ) → 10 ≤ v → v < 100000 → decimal v ≡ decimal (v / 10) ++ ((48 + v % 10) ∷ [])
unfolding decimal
decimal-more v h l = digits_more 4 v h ∙ ap (λ (s : List ℕ). s ++ ((48 + v % 10) ∷ [])) (sym (digits-room 3 (v / 10) (omega arith)))

pub decimal-most : (v : ℕ) → length (decimal v) ≤ 5
unfolding decimal
decimal-most v = digits-most 5 v

pub decimal_length_one : (v : ℕ) → v < 10 → length (decimal v) ≡ 1
decimal_length_one v h = ap length (decimal-one v h)

pub decimal_length_more : (v : ℕ) → 10 ≤ v → v < 100000 → length (decimal v) ≡ 1 + length (decimal (v / 10))
decimal_length_more v h l = ap length (decimal-more v h l) ∙ length-append (decimal (v / 10)) ((48 + v % 10) ∷ []) ∙ omega arith

-- The last of the first j + 1 digits, and what is left of the number once it is written.
pub record Last (d : List ℕ) (v j : ℕ) : Type 0 where
  pub digit : get_or d j 0 ≡ 48 + v % 10
  pub rest : 0 < j → decimal (v / 10) ≡ take j d

pub decimal-last : (d : List ℕ) (v j : ℕ) → v < 100000 → j < length d → decimal v ≡ take (j + 1) d → Last d v j
decimal-last d v j small h e = go (dec_lt v 10)
  where
    long : length (decimal v) ≡ j + 1
    long = ap length e ∙ length-take-le (j + 1) d (omega arith)

    at : get_or (decimal v) j 0 ≡ get_or d j 0
    at = ap (λ (l : List ℕ). get_or l j 0) e ∙ get_or-take (j + 1) d j 0 (omega arith)

    go : Dec (v < 10) → Last d v j
    go (yes l) =
        let z : j ≡ 0 = omega (arith, long, decimal_length_one v l) in
        let w : v % 10 ≡ v = omega arith in
        record { digit = sym at ∙ rw (z, decimal-one v l, w); rest = λ p. absurd (omega arith) }
    go (no l) =
        let n : length (decimal (v / 10)) ≡ j = omega (arith, long, decimal_length_more v (omega arith) small) in
        record {
          digit = sym at ∙ rw (decimal-more v (omega arith) small) (get_or_at (decimal (v / 10)) (48 + v % 10) [] 0 j n);
          rest = λ p.
              sym (take_at (decimal (v / 10)) ((48 + v % 10) ∷ []) j n)
              ∙ ap (take j) (sym (decimal-more v (omega arith) small) ∙ e)
              ∙ take-take j (j + 1) d (omega arith);
        }

-- ---- the whole text

pub name-text-most : (n : Name) → length (name_text n) ≤ 19
unfolding name_text text_of name_codes codes
name-text-most n =
    simp length-append (omega (arith, kept-most (name_codes n), kept-most (codes n.typ), decimal-most n.version))

-- That a name is proper by the lengths of its parts, and how long its text is.
pub ruleset name_laws = (proper-parts, name-text-most)
