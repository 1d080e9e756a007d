-- Laws of blank and filled codes and of the characters that they keep, along a walk through them. Assumes nothing.
use mathlib.Core.Path.{◌≡◌, refl, sym, ◌∙◌}
use mathlib.Core.Bool.{Bool, true, false, cond, ◌&&◌, true≢false, and-eq-true_iff}
use mathlib.Core.List.{List, [], ◌∷◌}
use Prim.Native.Nat.{ℕ, suc, ◌+◌, ◌≤◌, ◌<◌}
use native.Mathlib.Numerals.{add-one}
use native.Mathlib.Omega.{arith}
use borrow.Author.Tests.{eq-eqb, ne_eqb}
use lib.Dec.{eqb}
use Rattle.std.specs.Prelude.{◌==◌}
use Rattle.std.specs.List.{list_all}
use lib.ListN.{length, get_or, drop, drop_of_length-le}
use lib.Seq.{drop-cons}
use Rattle.radix50.specs.Table.{char_of, is_name_char}
use Rattle.names.specs.Names.{blank, filled, kept}

pub list_all-blank : (cs : List ℕ) → list_all (λ c. c == 0) cs ≡ blank cs
unfolding blank
list_all-blank [] = refl
list_all-blank (c ∷ cs) = rw (list_all-blank cs)

pub blank-kept : (cs : List ℕ) → blank cs ≡ true → kept cs ≡ []
unfolding blank kept
blank-kept [] t = refl
blank-kept (c ∷ cs) t = rw ((and-eq-true_iff (eqb c 0) (blank cs)).0 t).0 (blank-kept cs ((and-eq-true_iff (eqb c 0) (blank cs)).0 t).1)

pub kept-most : (xs : List ℕ) → length (kept xs) ≤ length xs
unfolding kept
kept-most [] = omega arith
kept-most (c ∷ xs) = go (eqb c 0) (kept-most xs)
  where
    go : (b : Bool) → length (kept xs) ≤ length xs → length (cond b (kept xs) (char_of c ∷ kept xs)) ≤ suc (length xs)
    go true h = omega arith
    go false h = omega arith

-- Filled codes that are not all blank keep a character.
pub filled-some : (cs : List ℕ) → filled cs ≡ true → blank cs ≡ false → 1 ≤ length (kept cs)
unfolding filled blank kept
filled-some [] t f = absurd (true≢false f)
filled-some (c ∷ cs) t f = go (eqb c 0) t f
  where
    go : (b : Bool) → cond b (blank cs) (is_name_char (char_of c) && filled cs) ≡ true → (b && blank cs) ≡ false → 1 ≤ length (cond b (kept cs) (char_of c ∷ kept cs))
    go true t f = absurd (true≢false (sym t ∙ f))
    go false t f = omega arith

module _ (cs : List ℕ) (i : ℕ) where
  pub filled-blank : i < length cs → get_or cs i 0 ≡ 0 → filled (drop i cs) ≡ blank (drop i cs)
  unfolding filled blank
  filled-blank h z = rw (drop-cons cs i 0, eq-eqb (get_or cs i 0) 0 z)

  pub filled_on : i < length cs → (get_or cs i 0 ≡ 0 → ⊥) → is_name_char (char_of (get_or cs i 0)) ≡ true → filled (drop i cs) ≡ filled (drop (i + 1) cs)
  unfolding filled
  filled_on h z t = rw (add-one i, drop-cons cs i 0, ne_eqb (get_or cs i 0) 0 z, t)

  pub filled_off : i < length cs → (get_or cs i 0 ≡ 0 → ⊥) → is_name_char (char_of (get_or cs i 0)) ≡ false → filled (drop i cs) ≡ false
  unfolding filled
  filled_off h z t = rw (drop-cons cs i 0, ne_eqb (get_or cs i 0) 0 z, t)

  pub filled-end : length cs ≤ i → filled (drop i cs) ≡ true
  unfolding filled
  filled-end h = rw (drop_of_length-le cs h)

  pub kept_on : i < length cs → (get_or cs i 0 ≡ 0 → ⊥) → length (kept (drop i cs)) ≡ 1 + length (kept (drop (i + 1) cs))
  unfolding kept
  kept_on h z = rw (add-one i, drop-cons cs i 0, ne_eqb (get_or cs i 0) 0 z) (omega arith)

  pub kept-end : length cs ≤ i → length (kept (drop i cs)) ≡ 0
  unfolding kept
  kept-end h = rw (drop_of_length-le cs h)

-- A walk through codes, up to the first that is no capital and no digit.
pub ruleset filled_walk = (blank-kept, filled-blank, filled_on, filled_off, filled-end, kept_on, kept-end)
