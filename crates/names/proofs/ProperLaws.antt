-- That a name is proper by the numbers of characters of its parts and its version. Assumes nothing.
use mathlib.Core.Path.{◌≡◌, refl, sym, ap₂}
use mathlib.Core.Bool.{Bool, true, false, cond, not, ◌&&◌, and-false, and-eq-true_iff}
use mathlib.Core.List.{List}
use Prim.Native.Nat.{ℕ, ◌≤◌}
use native.Mathlib.Omega.{arith}
use borrow.Author.Tests.{leb-true, le-leb}
use lib.Dec.{leb}
use lib.ListN.{length}
use Rattle.answer.specs.declared.types.Name.{Name}
use Rattle.radix50.specs.Words.{codes}
use Rattle.names.specs.Names.{blank, filled, kept, name_codes, proper}
use Rattle.names.proofs.NameLaws.{blank-kept, filled-some, kept-most}

pub codes-length : (w : ℕ) → length (codes w) ≡ 3
unfolding codes
codes-length w = refl

pub name_codes-length : (n : Name) → length (name_codes n) ≡ 9
unfolding name_codes codes
name_codes-length n = refl

-- How many characters a part has; 10 where it is not filled.
abbrev pub part_length : List ℕ → ℕ
part_length cs = cond (filled cs) (length (kept cs)) 10

-- The tests of a part, by the number of its characters.
pub name-test : (cs : List ℕ) → length cs ≤ 9
    → (not (blank cs) && filled cs) ≡ (leb 1 (part_length cs) && leb (part_length cs) 9)
name-test cs h = go (filled cs) refl (blank cs) refl
  where
    go : (f : Bool) → filled cs ≡ f → (b : Bool) → blank cs ≡ b → (not b && f) ≡ (leb 1 (cond f (length (kept cs)) 10) && leb (cond f (length (kept cs)) 10) 9)
    go true t true e = rw (blank-kept cs e)
    go true t false e = rw (le-leb 1 (length (kept cs)) (filled-some cs t e), le-leb (length (kept cs)) 9 (omega (arith, kept-most cs)))
    go false t b e = and-false (not b)

pub type-test : (cs : List ℕ) → length cs ≤ 3 → filled cs ≡ leb (part_length cs) 3
type-test cs h = go (filled cs)
  where
    go : (f : Bool) → f ≡ leb (cond f (length (kept cs)) 10) 3
    go true = sym (le-leb (length (kept cs)) 3 (omega (arith, kept-most cs)))
    go false = refl

pub proper-parts : (n : Name)
    → proper n ≡ (leb 1 (part_length (name_codes n)) && leb (part_length (name_codes n)) 9 && leb (part_length (codes n.typ)) 3 && leb 1 n.version && leb n.version 32767)
unfolding proper
proper-parts n =
    ap₂ (λ (a t : Bool). a && t && leb 1 n.version && leb n.version 32767)
    (name-test (name_codes n) (omega (arith, name_codes-length n)))
    (type-test (codes n.typ) (omega (arith, codes-length n.typ)))

-- What the tests say of the numbers of characters.
pub parts-known : (l s v : ℕ) → (leb 1 l && leb l 9 && leb s 3 && leb 1 v && leb v 32767) ≡ true → (l ≤ 9) × (s ≤ 3)
parts-known l s v t =
    let t₄ = ((and-eq-true_iff (leb 1 l && leb l 9 && leb s 3 && leb 1 v) (leb v 32767)).0 t).0 in
    let t₃ = ((and-eq-true_iff (leb 1 l && leb l 9 && leb s 3) (leb 1 v)).0 t₄).0 in
    let t₂ = (and-eq-true_iff (leb 1 l && leb l 9) (leb s 3)).0 t₃ in
    (leb-true l 9 ((and-eq-true_iff (leb 1 l) (leb l 9)).0 t₂.0).1, leb-true s 3 t₂.1)

pub part-known : (cs : List ℕ) (k : ℕ) → k ≡ part_length cs → k ≤ 9 → (filled cs ≡ true) × (k ≡ length (kept cs))
part-known cs k e h = go (filled cs) e
  where
    go : (f : Bool) → k ≡ cond f (length (kept cs)) 10 → (f ≡ true) × (k ≡ length (kept cs))
    go true e = (refl, e)
    go false e = absurd (omega arith)
