-- The blocks of a chain of a safe image: each is covered by one place of one header, so they are pairwise different.
use mathlib.Core.Path.{◌≡◌, refl, sym, ap, ◌∙◌}
use mathlib.Core.Bool.{true}
use mathlib.Core.List.{List, ◌++◌}
use Prim.Native.Nat.{ℕ, zero, suc, ◌+◌, ◌-◌, ◌≤◌, ◌<◌}
use native.Mathlib.Decide.{ℕ_discrete, dec_lt}
use native.Mathlib.Omega.{arith}
use lib.ListN.{length, get_or, length-append, get_or-append}
use lib.Seq.{get_or-append-add}
use Rattle.header.specs.Fields.{m_efnu}
use Rattle.pointers.specs.Pointers.{blocks_of}
use Rattle.volume.specs.Volume.{header, in_use}
use Rattle.chains.specs.Chains.{chain}
use Rattle.pointers.specs.Pointers.{flat}
use Rattle.lists.specs.Counts.{In}
use Rattle.sound.specs.Sound.{Covers, Safe}
use Rattle.sound.proofs.MemberLaws.{flat-at, flat-end, flat-more}
use Rattle.sound.proofs.ChainLaws.{chain-used, chain-apart}

-- LBN j is covered by a member of a list of numbers.
pub record Lies (image l : List ℕ) (j : ℕ) : Type 0 where
  pub number : ℕ
  pub member : In number l
  pub place : ℕ
  pub covers : Covers image number place j

module _ (image : List ℕ) (s : Safe image) where
  abbrev hdr : ℕ → List ℕ
  hdr = header image

  -- Block i of what is left of a chain.
  pub chain-lies : (f n : ℕ) → in_use image n ≡ true → (i : ℕ) → i < length (flat hdr (chain hdr f n)) → Lies image (chain hdr f n) (get_or (flat hdr (chain hdr f n)) i 0)
  chain-lies f n u i l =
      let a = flat-at hdr (chain hdr f n) i l in
      record {
        number = a.number;
        member = a.member;
        place = a.place;
        covers = record { used = chain-used image s f n a.number u a.member; inside = a.inside; here = a.here };
      }

  -- Its blocks are pairwise different.
  abbrev Different : ℕ → ℕ → Type 0
  Different f n =
      in_use image n ≡ true
      → (i j : ℕ) → i < length (flat hdr (chain hdr f n)) → j < length (flat hdr (chain hdr f n))
      → get_or (flat hdr (chain hdr f n)) i 0 ≡ get_or (flat hdr (chain hdr f n)) j 0 → i ≡ j

  here-different : (n i j : ℕ) → in_use image n ≡ true → i < length (blocks_of (hdr n)) → j < length (blocks_of (hdr n))
      → get_or (blocks_of (hdr n)) i 0 ≡ get_or (blocks_of (hdr n)) j 0 → i ≡ j
  here-different n i j u l k e =
      (s.once n i n j (get_or (blocks_of (hdr n)) j 0) (record { used = u; inside = l; here = e }) (record { used = u; inside = k; here = refl })).1

  -- The first header's blocks and those of the rest.
  rest-different : (f n : ℕ) → in_use image n ≡ true → (m_efnu (hdr n) ≡ 0 → ⊥) → (i j : ℕ)
      → i < length (blocks_of (hdr n)) → j < length (flat hdr (chain hdr f (m_efnu (hdr n))))
      → get_or (blocks_of (hdr n)) i 0 ≡ get_or (flat hdr (chain hdr f (m_efnu (hdr n)))) j 0 → ⊥
  rest-different f n u ne i j l k e =
      let r = chain-lies f (m_efnu (hdr n)) (s.link n u ne).used j k in
      chain-apart image s f n r.number u ne r.member
      (s.once n i r.number r.place (get_or (flat hdr (chain hdr f (m_efnu (hdr n)))) j 0) (record { used = u; inside = l; here = e }) r.covers).0

  none-different : (n : ℕ) → Different 0 n
  unfolding chain flat
  none-different n u i j l k e = absurd (omega arith)

  more-different : (f n : ℕ) → Different f (m_efnu (hdr n)) → Different (suc f) n
  more-different f n rest u i j l k e = go (ℕ_discrete (m_efnu (hdr n)) 0)
    where
      own : List ℕ
      own = blocks_of (hdr n)

      others : List ℕ
      others = flat hdr (chain hdr f (m_efnu (hdr n)))

      -- Block k past the first header's is one of the rest.
      past : (k : ℕ) → length own ≤ k → k < length (own ++ others) → (k - length own < length others) × (get_or (own ++ others) k 0 ≡ get_or others (k - length own) 0)
      past k h l =
          let q : k ≡ length own + (k - length own) = omega arith in
          (omega (arith, length-append own others), ap (λ (x : ℕ). get_or (own ++ others) x 0) q ∙ get_or-append-add own others (k - length own) 0)

      both : (m_efnu (hdr n) ≡ 0 → ⊥) → i < length (own ++ others) → j < length (own ++ others) → get_or (own ++ others) i 0 ≡ get_or (own ++ others) j 0
          → Dec (i < length own) → Dec (j < length own) → i ≡ j
      both ne l k e (yes a) (yes b) = here-different n i j u a b (sym (get_or-append own others 0 i a) ∙ e ∙ get_or-append own others 0 j b)
      both ne l k e (yes a) (no b) =
          let q = past j (omega arith) k in
          absurd (rest-different f n u ne i (j - length own) a q.0 (sym (get_or-append own others 0 i a) ∙ e ∙ q.1))
      both ne l k e (no a) (yes b) =
          let p = past i (omega arith) l in
          absurd (rest-different f n u ne j (i - length own) b p.0 (sym (get_or-append own others 0 j b) ∙ sym e ∙ p.1))
      both ne l k e (no a) (no b) =
          let p = past i (omega arith) l in
          let q = past j (omega arith) k in
          omega (arith, rest (s.link n u ne).used (i - length own) (j - length own) p.0 q.0 (sym p.1 ∙ e ∙ q.1))

      go : Dec (m_efnu (hdr n) ≡ 0) → i ≡ j
      go (yes z) =
          let b = flat-end hdr f n z in
          here-different n i j u (rw b at l) (rw b at k) (rw b at e)
      go (no ne) =
          let b = flat-more hdr f n ne in
          both ne (rw b at l) (rw b at k) (rw b at e) (dec_lt i (length own)) (dec_lt j (length own))

  pub chain-different : (f n : ℕ) → Different f n
  chain-different zero n = none-different n
  chain-different (suc f) n = more-different f n (chain-different f (m_efnu (hdr n)))
