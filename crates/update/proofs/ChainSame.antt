-- A chain depends on its members' headers alone: where another image has the same headers, it has the same chain and the same blocks.
use mathlib.Core.Path.{◌≡◌, refl, sym, ap, ap₂, ◌∙◌}
use mathlib.Core.List.{List, [], ◌∷◌, ◌++◌}
use Prim.Native.Nat.{ℕ, zero, suc}
use native.Mathlib.Decide.{ℕ_discrete}
use Rattle.header.specs.Fields.{m_efnu}
use Rattle.pointers.specs.Pointers.{blocks_of}
use Rattle.chains.specs.Chains.{chain}
use Rattle.pointers.specs.Pointers.{flat}
use Rattle.lists.specs.Counts.{In}
use Rattle.sound.proofs.MemberLaws.{in-here, in_tail, chain-end, chain_more, chain_head, chain-rest}

module _ (hdr hdr' : ℕ → List ℕ) where
  -- The members' links make the chain.
  pub chain-links : (f n : ℕ) → ((x : ℕ) → In x (chain hdr f n) → m_efnu (hdr' x) ≡ m_efnu (hdr x)) → chain hdr' f n ≡ chain hdr f n
  unfolding chain
  chain-links zero n same = refl
  chain-links (suc f) n same = go (chain-links f (m_efnu (hdr n))) (ℕ_discrete (m_efnu (hdr n)) 0) (same n (chain_head hdr f n))
    where
      go : (((x : ℕ) → In x (chain hdr f (m_efnu (hdr n))) → m_efnu (hdr' x) ≡ m_efnu (hdr x)) → chain hdr' f (m_efnu (hdr n)) ≡ chain hdr f (m_efnu (hdr n)))
          → Dec (m_efnu (hdr n) ≡ 0) → m_efnu (hdr' n) ≡ m_efnu (hdr n) → chain hdr' (suc f) n ≡ chain hdr (suc f) n
      go rest (yes e) q = chain-end hdr' f n (q ∙ e) ∙ sym (chain-end hdr f n e)
      go rest (no ne) q =
          chain_more hdr' f n (λ z. ne (sym q ∙ z))
          ∙ ap (λ (t : ℕ). n ∷ chain hdr' f t) q
          ∙ ap (λ (l : List ℕ). n ∷ l) (rest (λ x m. same x (chain-rest hdr f n x ne m)))
          ∙ sym (chain_more hdr f n ne)

  pub chain_same : (f n : ℕ) → ((x : ℕ) → In x (chain hdr f n) → hdr' x ≡ hdr x) → chain hdr' f n ≡ chain hdr f n
  chain_same f n same = chain-links f n (λ x m. ap m_efnu (same x m))

  pub flat-same : (l : List ℕ) → ((x : ℕ) → In x l → hdr' x ≡ hdr x) → flat hdr' l ≡ flat hdr l
  unfolding flat
  flat-same [] same = refl
  flat-same (n ∷ l) same =
      ap₂ (λ (a b : List ℕ). a ++ b) (ap blocks_of (same n (in-here n l))) (flat-same l (λ x m. same x (in_tail x n l m)))
