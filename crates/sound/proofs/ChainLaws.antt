-- Chains of a safe image: closed under links forward and backward, and two that meet are one.
use mathlib.Core.Path.{◌≡◌, refl, sym, ap, ◌∙◌}
use mathlib.Core.Bool.{true}
use mathlib.Core.Logic.{◌⊎◌, inl, inr}
use mathlib.Core.List.{List}
use Prim.Native.Nat.{ℕ, zero, suc, ◌+◌, ◌≤◌}
use native.Mathlib.Omega.{arith}
use Rattle.image.specs.Words.{Bytes}
use Rattle.header.specs.Fields.{segment, m_efnu}
use Rattle.volume.specs.Volume.{header, in_use}
use Rattle.chains.specs.Chains.{chain, chain_of}
use Rattle.chains.proofs.NumberLaws.{segment-most}
use Rattle.lists.specs.Counts.{In}
use Rattle.sound.specs.Sound.{Safe}
use Rattle.sound.specs.Claims.{IsFile}
use Rattle.sound.proofs.MemberLaws.{chain-none, chain-cases, chain_head, chain-rest, Prev, chain-prev}

module _ (image : List ℕ) (s : Safe image) where
  abbrev Used : ℕ → Type 0
  Used n = in_use image n ≡ true

  abbrev efnu : ℕ → ℕ
  efnu n = m_efnu (header image n)

  abbrev seg : ℕ → ℕ
  seg n = segment (header image n)

  abbrev members : ℕ → ℕ → List ℕ
  members f n = chain (header image) f n

  -- A known file is a file.
  pub known-file : (n : ℕ) → 1 ≤ n → n ≤ 5 → IsFile image n
  known-file n a b = record { used = (s.known n a b).used; first = (s.known n a b).first }

  -- One header at most links to a number.
  pub link-inj : (a b : ℕ) → Used a → Used b → (efnu b ≡ 0 → ⊥) → efnu a ≡ efnu b → a ≡ b
  link-inj a b ua ub ne e =
      let g = s.link b ub ne in
      let o = s.later (efnu b) g.used (λ z. omega (arith, g.next)) in
      let x : a ≡ o.from = o.only a ua e in
      let y : b ≡ o.from = o.only b ub refl in
      x ∙ sym y

  -- Every member is in use, and has no lower segment number than the first.
  pub chain-used : (f n x : ℕ) → Used n → In x (members f n) → Used x
  chain-used zero n x u m = absurd (chain-none (header image) n x m)
  chain-used (suc f) n x u m = go (chain-used f (efnu n) x) (chain-cases (header image) f n x m)
    where
      go : (Used (efnu n) → In x (members f (efnu n)) → Used x) → (x ≡ n) ⊎ ((efnu n ≡ 0 → ⊥) × In x (members f (efnu n))) → Used x
      go rest (inl e) = rw e u
      go rest (inr k) = rest (s.link n u k.0).used k.1

  pub chain-later : (f n x : ℕ) → Used n → In x (members f n) → seg n ≤ seg x
  chain-later zero n x u m = absurd (chain-none (header image) n x m)
  chain-later (suc f) n x u m = go (chain-later f (efnu n) x) (chain-cases (header image) f n x m)
    where
      go : (Used (efnu n) → In x (members f (efnu n)) → seg (efnu n) ≤ seg x) → (x ≡ n) ⊎ ((efnu n ≡ 0 → ⊥) × In x (members f (efnu n))) → seg n ≤ seg x
      go rest (inl e) = rw e (omega arith)
      go rest (inr k) =
          let g = s.link n u k.0 in
          omega (arith, g.next, rest g.used k.1)

  -- None of the rest is the first.
  pub chain-apart : (f n x : ℕ) → Used n → (efnu n ≡ 0 → ⊥) → In x (members f (efnu n)) → n ≡ x → ⊥
  chain-apart f n x u ne m e =
      let g = s.link n u ne in
      omega (arith, g.next, chain-later f (efnu n) x g.used m, ap seg e)

  -- What a member links to is a member, for a chain has at most 256 headers.
  module _ (bytes : Bytes image) where
    pub chain_first : (f n : ℕ) → 256 ≤ seg n + f → In n (members f n)
    chain_first zero n h = absurd (omega (arith, segment-most image n bytes))
    chain_first (suc f) n h = chain_head (header image) f n

    pub chain_next : (f n x : ℕ) → Used n → 256 ≤ seg n + f → In x (members f n) → (efnu x ≡ 0 → ⊥) → In (efnu x) (members f n)
    chain_next zero n x u h m ne = absurd (chain-none (header image) n x m)
    chain_next (suc f) n x u h m ne = go (chain_next f (efnu n) x) (chain-cases (header image) f n x m)
      where
        go : (Used (efnu n) → 256 ≤ seg (efnu n) + f → In x (members f (efnu n)) → (efnu x ≡ 0 → ⊥) → In (efnu x) (members f (efnu n)))
            → (x ≡ n) ⊎ ((efnu n ≡ 0 → ⊥) × In x (members f (efnu n))) → In (efnu x) (members (suc f) n)
        go rest (inl e) =
            let nt : efnu n ≡ 0 → ⊥ = λ z. ne (ap efnu e ∙ z) in
            rw e (chain-rest (header image) f n (efnu n) nt (chain_first f (efnu n) (omega (arith, (s.link n u nt).next))))
        go rest (inr k) =
            let g = s.link n u k.0 in
            chain-rest (header image) f n (efnu x) k.0 (rest g.used (omega (arith, g.next)) k.1 ne)

  module _ (a : ℕ) (fa : IsFile image a) where
    abbrev Prev' : ℕ → Type 0
    Prev' x = Prev (header image) x (chain_of image a)

    pub member-used : (x : ℕ) → In x (chain_of image a) → Used x
    unfolding chain_of
    member-used x m = chain-used 256 a x fa.used m

    pub member-prev : (x : ℕ) → In x (chain_of image a) → (x ≡ a) ⊎ Prev' x
    unfolding chain_of
    member-prev x m = chain-prev (header image) 256 a x m

    -- A member with segment 0 is the first.
    pub only-head : (x : ℕ) → seg x ≡ 0 → In x (chain_of image a) → x ≡ a
    only-head x z m =
        elim (member-prev x m) [ inl e ↦ e | inr p ↦ absurd (s.first x (member-used x m) z p.from (member-used p.from p.inside) p.linked) ]

    -- What links to a member is a member.
    pub back : (y x : ℕ) → Used y → efnu y ≡ x → In x (chain_of image a) → In y (chain_of image a)
    back y x uy e m = go (member-prev x m)
      where
        go : (x ≡ a) ⊎ Prev' x → In y (chain_of image a)
        go (inl q) = absurd (s.first a fa.used fa.first y uy (e ∙ q))
        go (inr p) =
            let yp : y ≡ p.from = link-inj y p.from uy (member-used p.from p.inside) p.some (e ∙ sym p.linked) in
            rw yp p.inside

  -- Two chains with a member in common are one.
  module _ (a b : ℕ) (fa : IsFile image a) (fb : IsFile image b) where
    chains-meet : (d x : ℕ) → seg x ≤ d → In x (chain_of image a) → In x (chain_of image b) → a ≡ b
    chains-meet zero x h ma mb = sym (only-head a fa x (omega arith) ma) ∙ only-head b fb x (omega arith) mb
    chains-meet (suc d) x h ma mb = go (chains-meet d) (member-prev a fa x ma)
      where
        go : ((y : ℕ) → seg y ≤ d → In y (chain_of image a) → In y (chain_of image b) → a ≡ b) → (x ≡ a) ⊎ Prev (header image) x (chain_of image a) → a ≡ b
        go rest (inl e) = only-head b fb a fa.first (rw e at mb)
        go rest (inr p) =
            let up = member-used a fa p.from p.inside in
            let next : seg x ≡ seg p.from + 1 = rw p.linked at (s.link p.from up p.some).next in
            rest p.from (omega arith) p.inside (back b fb p.from x up p.linked mb)

    pub chains-apart : (x : ℕ) → In x (chain_of image a) → In x (chain_of image b) → a ≡ b
    chains-apart x = chains-meet (seg x) x (omega arith)
