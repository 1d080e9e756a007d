-- Laws of the character table, each by one test that is computed over the whole table. Assumes nothing.
use mathlib.Core.Path.{◌≡◌, refl, sym, ap, ◌∙◌}
use mathlib.Core.Bool.{Bool, true, false, cond, not, ◌&&◌, ◌||◌, false≢true, beq, and-false, and-eq-true_iff}
use mathlib.Core.List.{List, [], ◌∷◌}
use Prim.Native.Nat.{ℕ, ◌-◌, ◌≤◌, ◌<◌}
use native.Mathlib.Decide.{dec_lt}
use native.Mathlib.Omega.{arith}
use borrow.Author.Tests.{eqb-true, eqb-false, leb-true, ltb-true, not-true, ne_eqb, lt-leb}
use lib.Dec.{eqb, leb, ltb}
use lib.ListN.{get_or}
use Rattle.lists.specs.First.{first, below}
use Rattle.lists.proofs.BelowLaws.{below_at}
use Rattle.radix50.specs.Table.{char_of, nothing, has_char, code_of, is_digit, is_name_char}

-- The forty characters, as the code's table has them.
unfoldable pub characters : List ℕ
characters =
    32 ∷ 65 ∷ 66 ∷ 67 ∷ 68 ∷ 69 ∷ 70 ∷ 71 ∷ 72 ∷ 73 ∷ 74 ∷ 75 ∷ 76 ∷ 77 ∷ 78 ∷ 79 ∷ 80 ∷ 81 ∷ 82 ∷ 83
    ∷ 84 ∷ 85 ∷ 86 ∷ 87 ∷ 88 ∷ 89 ∷ 90 ∷ 36 ∷ 46 ∷ 0 ∷ 48 ∷ 49 ∷ 50 ∷ 51 ∷ 52 ∷ 53 ∷ 54 ∷ 55 ∷ 56 ∷ 57 ∷ []

pub characters_at : (c : ℕ) → c < 40 → get_or characters c 0 ≡ char_of c
unfolding below characters char_of
characters_at c h =
    eqb-true (get_or characters c 0) (char_of c) (below_at 40 (λ c. eqb (get_or characters c 0) (char_of c)) refl c h)

pub char-past : (c : ℕ) → 40 ≤ c → char_of c ≡ 0
unfolding char_of
char-past c h = rw (ne_eqb c 0 (omega arith), lt-leb c 26 (omega arith), ne_eqb c 27 (omega arith), ne_eqb c 28 (omega arith), lt-leb c 39 (omega arith), and-false, and-false)

-- The code of a character by the ranges that it may lie in.
unfoldable pub by_range : ℕ → ℕ
by_range x =
    cond (leb 65 x) (cond (leb x 90) (x - 64) 40)
    (cond (leb 48 x) (cond (leb x 57) (x - 18) 40)
    (cond (eqb x 32) 0
    (cond (eqb x 36) 27
    (cond (eqb x 46) 28 40))))

pub code_by_range : (x : ℕ) → x < 256 → code_of x ≡ by_range x
unfolding below by_range code_of first has_char char_of
code_by_range x h = eqb-true (code_of x) (by_range x) (below_at 256 (λ x. eqb (code_of x) (by_range x)) refl x h)

-- The codes of capitals and digits by their ranges.
unfoldable pub name_range : ℕ → Bool
name_range c = (leb 1 c && leb c 26) || (leb 30 c && leb c 39)

same_test : ℕ → Bool
same_test c = beq (is_name_char (char_of c)) (name_range c)

beq-true : (a b : Bool) → beq a b ≡ true → a ≡ b
beq-true true true t = refl
beq-true true false t = absurd (false≢true t)
beq-true false true t = absurd (false≢true t)
beq-true false false t = refl

pub name_by_range : (c : ℕ) → c < 256 → is_name_char (char_of c) ≡ name_range c
unfolding below name_range same_test char_of is_name_char is_digit
name_by_range c h = beq-true (is_name_char (char_of c)) (name_range c) (below_at 256 same_test refl c h)

-- The inverse, over the whole table: the code of a code's character is that code, and the code that is nothing has none.
pub code-char : (c : ℕ) → c < 40 → code_of (char_of c) ≡ cond (eqb c nothing) 40 c
unfolding below code_of first has_char char_of
code-char c h =
    eqb-true (code_of (char_of c)) (cond (eqb c nothing) 40 c) (below_at 40 (λ c. eqb (code_of (char_of c)) (cond (eqb c nothing) 40 c)) refl c h)

-- What a capital or a digit has: a code, which is not blank and has this character.
pub record Coded (x : ℕ) : Type 0 where
  pub small : code_of x < 40
  pub filled : code_of x ≡ 0 → ⊥
  pub back : char_of (code_of x) ≡ x

coded_test : ℕ → Bool
coded_test x = not (is_name_char x) || (ltb (code_of x) 40 && not (eqb (code_of x) 0) && eqb (char_of (code_of x)) x)

coded-all : below 91 coded_test ≡ true
unfolding below coded_test code_of first has_char char_of is_name_char is_digit
coded-all = refl

pub name-char-most : (x : ℕ) → is_name_char x ≡ true → x ≤ 90
unfolding is_name_char is_digit
name-char-most x t = go (leb x 90) refl (leb x 57) refl t
  where
    go : (a : Bool) → leb x 90 ≡ a → (b : Bool) → leb x 57 ≡ b → ((leb 65 x && a) || (leb 48 x && b)) ≡ true → x ≤ 90
    go true e b f t = leb-true x 90 e
    go false e true f t = omega (arith, leb-true x 57 f)
    go false e false f t = absurd (false≢true (rw (and-false, and-false) at t))

pub coded : (x : ℕ) → is_name_char x ≡ true → Coded x
unfolding coded_test
coded x t =
    let all : (ltb (code_of x) 40 && not (eqb (code_of x) 0) && eqb (char_of (code_of x)) x) ≡ true =
    rw t at (below_at 91 coded_test coded-all x (omega (arith, name-char-most x t))) in
    let two = ((and-eq-true_iff (ltb (code_of x) 40 && not (eqb (code_of x) 0)) (eqb (char_of (code_of x)) x)).0 all).0 in
    record {
      small = ltb-true (code_of x) 40 ((and-eq-true_iff (ltb (code_of x) 40) (not (eqb (code_of x) 0))).0 two).0;
      filled = eqb-false (code_of x) 0 (not-true (eqb (code_of x) 0) ((and-eq-true_iff (ltb (code_of x) 40) (not (eqb (code_of x) 0))).0 two).1);
      back = eqb-true (char_of (code_of x)) x ((and-eq-true_iff (ltb (code_of x) 40 && not (eqb (code_of x) 0)) (eqb (char_of (code_of x)) x)).0 all).1;
    }

zero-no-name : is_name_char 0 ≡ false
unfolding is_name_char is_digit
zero-no-name = refl

nothing-char : char_of nothing ≡ 0
unfolding char_of
nothing-char = refl

-- A code whose character is a capital or a digit is below 40, and is the code of that character.
pub name-code-small : (c : ℕ) → is_name_char (char_of c) ≡ true → c < 40
name-code-small c t = go (dec_lt c 40)
  where
    go : Dec (c < 40) → c < 40
    go (yes h) = h
    go (no h) = absurd (false≢true (sym zero-no-name ∙ ap is_name_char (sym (char-past c (omega arith))) ∙ t))

pub name-code : (c : ℕ) → is_name_char (char_of c) ≡ true → code_of (char_of c) ≡ c
name-code c t = go (eqb c nothing) refl
  where
    go : (b : Bool) → eqb c nothing ≡ b → code_of (char_of c) ≡ c
    go true e = absurd (false≢true (sym zero-no-name ∙ ap is_name_char (sym (ap char_of (eqb-true c nothing e) ∙ nothing-char)) ∙ t))
    go false e = rw e at (code-char c (name-code-small c t))

pub blank-code : code_of 32 ≡ 0
unfolding code_of first has_char char_of
blank-code = refl
