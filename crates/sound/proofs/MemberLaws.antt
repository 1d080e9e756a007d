-- Laws of the members of a chain, and of the places of its blocks. They hold of every chain; hdr gives the header of a number.
use mathlib.Core.Path.{◌≡◌, sym, ap, ◌∙◌}
use mathlib.Core.Logic.{◌⊎◌, inl, inr}
use mathlib.Core.List.{List, [], ◌∷◌, ◌++◌}
use Prim.Native.Nat.{ℕ, zero, suc, ◌+◌, ◌-◌, ◌<◌}
use native.Mathlib.Numerals.{add-one}
use native.Mathlib.Decide.{ℕ_discrete, dec_lt}
use native.Mathlib.Omega.{arith}
use lib.ListN.{length, get_or, length-append, get_or-append}
use lib.Seq.{get_or-append-add}
use Rattle.header.specs.Fields.{m_efnu}
use Rattle.pointers.specs.Pointers.{blocks_of}
use Rattle.chains.specs.Chains.{chain}
use Rattle.pointers.specs.Pointers.{flat}
use Rattle.chains.proofs.ChainLaws as file
use Rattle.lists.specs.Counts.{In}
use Rattle.lists.proofs.CountLaws.{count_none, count-here, count-skip, count-tail}

pub in-cases : (x y : ℕ) (l : List ℕ) → In x (y ∷ l) → (x ≡ y) ⊎ In x l
in-cases x y l h = go (ℕ_discrete x y)
  where
    go : Dec (x ≡ y) → (x ≡ y) ⊎ In x l
    go (yes e) = inl e
    go (no ne) = inr (omega (arith, count-skip x y l ne))

pub in-here : (x : ℕ) (l : List ℕ) → In x (x ∷ l)
in-here x l = omega (arith, count-here x l)

pub in_tail : (x y : ℕ) (l : List ℕ) → In x l → In x (y ∷ l)
in_tail x y l h = omega (arith, count-tail x y l)

module _ (hdr : ℕ → List ℕ) where
  -- The chain of one header more, and its blocks.
  pub chain-end : (f n : ℕ) → m_efnu (hdr n) ≡ 0 → chain hdr (suc f) n ≡ n ∷ []
  chain-end f n e = rw (← add-one f) (file.chain-end hdr f n e)

  pub chain_more : (f n : ℕ) → (m_efnu (hdr n) ≡ 0 → ⊥) → chain hdr (suc f) n ≡ n ∷ chain hdr f (m_efnu (hdr n))
  chain_more f n ne = rw (← add-one f) (file.chain_more hdr f n ne)

  pub flat-end : (f n : ℕ) → m_efnu (hdr n) ≡ 0 → flat hdr (chain hdr (suc f) n) ≡ blocks_of (hdr n)
  flat-end f n e = rw (← add-one f) (file.flat-end hdr f n e)

  pub flat-more : (f n : ℕ) → (m_efnu (hdr n) ≡ 0 → ⊥) → flat hdr (chain hdr (suc f) n) ≡ blocks_of (hdr n) ++ flat hdr (chain hdr f (m_efnu (hdr n)))
  flat-more f n ne = rw (← add-one f) (file.flat-more hdr f n ne)

  -- Nothing is a member of a chain of no headers. A member of another is the first, or one of the rest.
  pub chain-none : (n x : ℕ) → In x (chain hdr 0 n) → ⊥
  unfolding chain
  chain-none n x m = omega (arith, count_none x)

  pub chain-cases : (f n x : ℕ) → In x (chain hdr (suc f) n) → (x ≡ n) ⊎ ((m_efnu (hdr n) ≡ 0 → ⊥) × In x (chain hdr f (m_efnu (hdr n))))
  chain-cases f n x m = go (ℕ_discrete (m_efnu (hdr n)) 0)
    where
      go : Dec (m_efnu (hdr n) ≡ 0) → (x ≡ n) ⊎ ((m_efnu (hdr n) ≡ 0 → ⊥) × In x (chain hdr f (m_efnu (hdr n))))
      go (yes e) = elim (in-cases x n [] (rw (chain-end f n e) at m)) [ inl q ↦ inl q | inr k ↦ absurd (omega (arith, count_none x)) ]
      go (no ne) = elim (in-cases x n (chain hdr f (m_efnu (hdr n))) (rw (chain_more f n ne) at m)) [ inl q ↦ inl q | inr k ↦ inr (ne, k) ]

  pub chain_head : (f n : ℕ) → In n (chain hdr (suc f) n)
  chain_head f n = go (ℕ_discrete (m_efnu (hdr n)) 0)
    where
      go : Dec (m_efnu (hdr n) ≡ 0) → In n (chain hdr (suc f) n)
      go (yes e) = rw (chain-end f n e) (in-here n [])
      go (no ne) = rw (chain_more f n ne) (in-here n (chain hdr f (m_efnu (hdr n))))

  pub chain-rest : (f n x : ℕ) → (m_efnu (hdr n) ≡ 0 → ⊥) → In x (chain hdr f (m_efnu (hdr n))) → In x (chain hdr (suc f) n)
  chain-rest f n x ne m = rw (chain_more f n ne) (in_tail x n (chain hdr f (m_efnu (hdr n))) m)

  -- A member is the first, or another member links to it.
  pub record Prev (y : ℕ) (l : List ℕ) : Type 0 where
    pub from : ℕ
    pub inside : In from l
    pub linked : m_efnu (hdr from) ≡ y
    pub some : m_efnu (hdr from) ≡ 0 → ⊥

  pub chain-prev : (f n y : ℕ) → In y (chain hdr f n) → (y ≡ n) ⊎ Prev y (chain hdr f n)
  chain-prev zero n y m = absurd (chain-none n y m)
  chain-prev (suc f) n y m = go (chain-prev f (m_efnu (hdr n)) y) (chain-cases f n y m)
    where
      deep : (m_efnu (hdr n) ≡ 0 → ⊥) → (y ≡ m_efnu (hdr n)) ⊎ Prev y (chain hdr f (m_efnu (hdr n))) → (y ≡ n) ⊎ Prev y (chain hdr (suc f) n)
      deep ne (inl q) = inr (record { from = n; inside = chain_head f n; linked = sym q; some = ne })
      deep ne (inr p) = inr (record { from = p.from; inside = chain-rest f n p.from ne p.inside; linked = p.linked; some = p.some })

      go : (In y (chain hdr f (m_efnu (hdr n))) → (y ≡ m_efnu (hdr n)) ⊎ Prev y (chain hdr f (m_efnu (hdr n))))
          → (y ≡ n) ⊎ ((m_efnu (hdr n) ≡ 0 → ⊥) × In y (chain hdr f (m_efnu (hdr n)))) → (y ≡ n) ⊎ Prev y (chain hdr (suc f) n)
      go rest (inl e) = inl e
      go rest (inr k) = deep k.0 (rest k.1)

  -- Block i of headers one after the other is that of a place of one of them.
  pub record At (l : List ℕ) (i : ℕ) : Type 0 where
    pub number : ℕ
    pub member : In number l
    pub place : ℕ
    pub inside : place < length (blocks_of (hdr number))
    pub here : get_or (blocks_of (hdr number)) place 0 ≡ get_or (flat hdr l) i 0

  pub flat-at : (l : List ℕ) (i : ℕ) → i < length (flat hdr l) → At l i
  unfolding flat
  flat-at [] i h = absurd (omega arith)
  flat-at (n ∷ l) i h = go (flat-at l (i - length (blocks_of (hdr n)))) (dec_lt i (length (blocks_of (hdr n))))
    where
      first : List ℕ
      first = blocks_of (hdr n)

      go : (i - length first < length (flat hdr l) → At l (i - length first)) → Dec (i < length first) → At (n ∷ l) i
      go rest (yes s) = record { number = n; member = in-here n l; place = i; inside = s; here = sym (get_or-append first (flat hdr l) 0 i s) }
      go rest (no s) =
          let r = rest (omega (arith, length-append first (flat hdr l))) in
          let e : length first + (i - length first) ≡ i = omega arith in
          record {
            number = r.number;
            member = in_tail r.number n l r.member;
            place = r.place;
            inside = r.inside;
            here = r.here ∙ sym (get_or-append-add first (flat hdr l) (i - length first) 0) ∙ ap (λ (k : ℕ). get_or (first ++ flat hdr l) k 0) e;
          }
