-- The last header of a chain, and a file whose last header covers more.
use mathlib.Core.Path.{◌≡◌, sym, ap, ap₂, ◌∙◌}
use mathlib.Core.Bool.{true}
use mathlib.Core.List.{List, [], ◌∷◌, ◌++◌, append-nil, append_assoc}
use Prim.Native.Nat.{ℕ, zero, suc, ◌+◌, ◌≤◌}
use native.Mathlib.Omega.{arith}
use native.Mathlib.Decide.{ℕ_discrete}
use Rattle.image.specs.Words.{Bytes}
use Rattle.header.specs.Fields.{segment, m_efnu}
use Rattle.pointers.specs.Pointers.{blocks_of}
use Rattle.volume.specs.Volume.{header, in_use}
use Rattle.chains.specs.Chains.{chain, chain_of, file_blocks, last_number}
use Rattle.pointers.specs.Pointers.{flat}
use Rattle.chains.proofs.NumberLaws.{segment-most}
use Rattle.lists.specs.Counts.{In}
use Rattle.lists.proofs.CountLaws.{count_none}
use Rattle.sound.specs.Sound.{Safe}
use Rattle.sound.specs.Claims.{IsFile}
use Rattle.sound.proofs.MemberLaws.{in-here, in_tail, chain-end, chain_more}
use Rattle.sound.proofs.ChainLaws.{chain_first, chain-later}
use Rattle.lists.specs.Lists.{last_of}

-- The last of a list that is not empty stands in it.
pub last-in : (d x : ℕ) (l : List ℕ) → In x l → In (last_of d l) l
unfolding last_of
last-in d x [] m = absurd (omega (arith, count_none x))
last-in d x (y ∷ []) m = in-here y []
last-in d x (y ∷ (z ∷ l)) m = in_tail (last_of y (z ∷ l)) y (z ∷ l) (last-in y z (z ∷ l) (in-here z l))

module _ (image : List ℕ) (bytes : Bytes image) (s : Safe image) where
  abbrev hdr : ℕ → List ℕ
  hdr = header image

  -- The last header of a file is one of its headers.
  pub last-member : (n : ℕ) → IsFile image n → In (last_number image n) (chain_of image n)
  unfolding last_number chain_of
  last-member n file = last-in n n (chain hdr 256 n) (chain_first image s bytes 256 n (omega (arith, file.first)))

  -- New blocks at the end of the last header are new blocks at the end of what is left of the chain.
  flat-grow : (hdr' : ℕ → List ℕ) (new : List ℕ) (f n d : ℕ) → in_use image n ≡ true → 256 ≤ segment (hdr n) + f
      → ((x : ℕ) → In x (chain hdr f n) → (x ≡ last_of d (chain hdr f n) → ⊥) → hdr' x ≡ hdr x)
      → blocks_of (hdr' (last_of d (chain hdr f n))) ≡ blocks_of (hdr (last_of d (chain hdr f n))) ++ new
      → flat hdr' (chain hdr f n) ≡ flat hdr (chain hdr f n) ++ new
  unfolding flat last_of
  flat-grow hdr' new zero n d u h same grow = absurd (omega (arith, segment-most image n bytes))
  flat-grow hdr' new (suc f) n d u h same grow = go (flat-grow hdr' new f (m_efnu (hdr n)) n) (ℕ_discrete (m_efnu (hdr n)) 0)
    where
      t : ℕ
      t = m_efnu (hdr n)

      l : List ℕ
      l = chain hdr f t

      go : (in_use image t ≡ true → 256 ≤ segment (hdr t) + f → ((x : ℕ) → In x l → (x ≡ last_of n l → ⊥) → hdr' x ≡ hdr x)
          → blocks_of (hdr' (last_of n l)) ≡ blocks_of (hdr (last_of n l)) ++ new → flat hdr' l ≡ flat hdr l ++ new)
          → Dec (t ≡ 0) → flat hdr' (chain hdr (suc f) n) ≡ flat hdr (chain hdr (suc f) n) ++ new
      go rest (yes e) =
          let g : blocks_of (hdr' n) ≡ blocks_of (hdr n) ++ new = rw (chain-end hdr f n e) at grow in
          rw (chain-end hdr f n e) (append-nil (blocks_of (hdr' n)) ∙ g ∙ ap (λ (l : List ℕ). l ++ new) (sym (append-nil (blocks_of (hdr n)))))
      go rest (no ne) =
          let c = s.link n u ne in
          let room : 256 ≤ segment (hdr t) + f = omega (arith, c.next) in
          let same' : (x : ℕ) → In x (n ∷ l) → (x ≡ last_of n l → ⊥) → hdr' x ≡ hdr x = rw (chain_more hdr f n ne) at same in
          let g : blocks_of (hdr' (last_of n l)) ≡ blocks_of (hdr (last_of n l)) ++ new = rw (chain_more hdr f n ne) at grow in
          let low : segment (hdr t) ≤ segment (hdr (last_of n l)) = chain-later image s f t (last_of n l) c.used (last-in n t l (chain_first image s bytes f t room)) in
          let apart : n ≡ last_of n l → ⊥ = λ e. omega (arith, c.next, ap (λ (k : ℕ). segment (hdr k)) e) in
          rw (chain_more hdr f n ne)
          (ap₂ (λ (a b : List ℕ). a ++ b) (ap blocks_of (same' n (in-here n l) apart)) (rest c.used room (λ x m. same' x (in_tail x n l m)) g)
          ∙ sym (append_assoc (blocks_of (hdr n)) (flat hdr l) new))

  -- New blocks in the last header are new blocks at the end of the file's.
  pub file-grow : (hdr' : ℕ → List ℕ) (new : List ℕ) (n : ℕ) → IsFile image n
      → ((x : ℕ) → In x (chain_of image n) → (x ≡ last_number image n → ⊥) → hdr' x ≡ header image x)
      → blocks_of (hdr' (last_number image n)) ≡ blocks_of (header image (last_number image n)) ++ new
      → flat hdr' (chain_of image n) ≡ file_blocks image n ++ new
  unfolding file_blocks chain_of last_number
  file-grow hdr' new n file same grow = flat-grow hdr' new 256 n n file.used (omega (arith, file.first)) same grow
