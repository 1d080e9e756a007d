-- Where the attributes give an end of file, and where they give none.
use mathlib.Core.Path.{◌≡◌}
use mathlib.Core.List.{List}
use Prim.Native.Nat.{ℕ, ◌*◌, min}
use borrow.Author.Tests.{eq-eqb, ne_eqb}
use Rattle.header.specs.Attributes.{f_efbk, end_byte, end_of}

module _ (h : List ℕ) (count : ℕ) where
  pub end_none : f_efbk h ≡ 0 → end_of h count ≡ 512 * count
  unfolding end_of
  end_none e = rw (eq-eqb (f_efbk h) 0 e)

  pub end-given : (f_efbk h ≡ 0 → ⊥) → end_of h count ≡ min (end_byte h) (512 * count)
  unfolding end_of
  end-given e = rw (ne_eqb (f_efbk h) 0 e)
