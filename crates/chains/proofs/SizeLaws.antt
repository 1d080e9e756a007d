-- How many blocks a header and a file can cover, and where they lie.
use mathlib.Core.Path.{◌≡◌, ap}
use mathlib.Core.Bool.{Bool, true, false, cond, and-eq-true_iff}
use mathlib.Core.List.{List, []}
use Prim.Native.Nat.{ℕ, zero, suc, ◌+◌, ◌*◌, ◌-◌, ◌≤◌, ◌<◌}
use native.Mathlib.Numerals.{add-one}
use native.Mathlib.Decide.{ℕ_discrete, dec_lt}
use native.Mathlib.Omega.{arith}
use lib.Dec.{eqb}
use lib.ListN.{length, get_or, length-append, get_or-append}
use lib.Seq.{get_or-append-add}
use Rattle.image.specs.Words.{Bytes}
use Rattle.image.proofs.BlockLaws.{block-bytes}
use Rattle.header.specs.Fields.{m_efnu}
use Rattle.pointers.specs.Pointers.{blocks_of}
use Rattle.whole.proofs.WholeLaws.{whole-inside}
use Rattle.home.specs.Home.{blocks}
use Rattle.volume.specs.Volume.{slot, header, fault_of}
use Rattle.volume.proofs.IndexLaws.{blocks_of-most}
use Rattle.chains.specs.Chains.{chain, chain_of, good_link_of, good_chain, IsFirst, file_blocks}
use Rattle.pointers.specs.Pointers.{flat}
use Rattle.lists.specs.Lists.{every}
use Rattle.chains.proofs.LinkLaws.{good-links}
use Rattle.chains.proofs.ChainLaws.{flat-end, flat-more, every_more}

-- At most 256 headers.
module _ (image : List ℕ) (bytes : Bytes image) where
  flat-most : (f n : ℕ) → length (flat (header image) (chain (header image) f n)) ≤ 32512 * f
  unfolding chain flat header
  flat-most zero n = omega arith
  flat-most (suc f) n =
      rw (length-append (blocks_of (header image n)) (flat (header image) (cond (eqb (m_efnu (header image n)) 0) [] (chain (header image) f (m_efnu (header image n))))))
      (go (eqb (m_efnu (header image n)) 0) (flat-most f (m_efnu (header image n))))
    where
      go : (t : Bool) → length (flat (header image) (chain (header image) f (m_efnu (header image n)))) ≤ 32512 * f
          → length (blocks_of (header image n)) + length (flat (header image) (cond t [] (chain (header image) f (m_efnu (header image n))))) ≤ 32512 * suc f
      go true h = omega (arith, blocks_of-most (header image n) (block-bytes image (slot image n) bytes))
      go false h = omega (arith, blocks_of-most (header image n) (block-bytes image (slot image n) bytes))

  pub file-most : (n : ℕ) → length (file_blocks image n) ≤ 8323072
  unfolding file_blocks chain_of
  file-most n = flat-most 256 n

-- Each block of a file with a good chain lies on the volume, for its headers are whole.
module _ (image : List ℕ) where
  -- What is left of a chain, at most f headers from number m on.
  abbrev Below : ℕ → ℕ → Type 0
  Below f m =
      fault_of image m ≡ 0 → every (good_link_of image) (chain (header image) f m) ≡ true
      → (j : ℕ) → j < length (flat (header image) (chain (header image) f m)) → get_or (flat (header image) (chain (header image) f m)) j 0 < blocks image

  here-below : (m : ℕ) → fault_of image m ≡ 0 → (j : ℕ) → j < length (blocks_of (header image m)) → get_or (blocks_of (header image m)) j 0 < blocks image
  unfolding fault_of
  here-below m whole = whole-inside (blocks image) m (header image m) whole

  more-below : (f m : ℕ) → Below f (m_efnu (header image m)) → Below (f + 1) m
  unfolding good_link_of
  more-below f m on whole good j l = go (ℕ_discrete (m_efnu h) 0) (dec_lt j (length (blocks_of h)))
    where
      h : List ℕ
      h = header image m

      rest : List ℕ
      rest = flat (header image) (chain (header image) f (m_efnu h))

      go : Dec (m_efnu h ≡ 0) → Dec (j < length (blocks_of h)) → get_or (flat (header image) (chain (header image) (f + 1) m)) j 0 < blocks image
      go (yes e) d = rw (flat-end (header image) f m e) (here-below m whole j (rw (flat-end (header image) f m e) at l))
      go (no ne) (yes s) = rw (flat-more (header image) f m ne, get_or-append (blocks_of h) rest 0 j s) (here-below m whole j s)
      go (no ne) (no s) =
          let both = (and-eq-true_iff (good_link_of image m) (every (good_link_of image) (chain (header image) f (m_efnu h)))).0 (rw (every_more (header image) (good_link_of image) f m ne) at good) in
          let i = j - length (blocks_of h) in
          let e : j ≡ length (blocks_of h) + i = omega arith in
          rw (flat-more (header image) f m ne, e, get_or-append-add (blocks_of h) rest i 0)
          (on (good-links image h ne both.0).whole both.1 i (omega (arith, ap length (flat-more (header image) f m ne), length-append (blocks_of h) rest)))

  none_below : (m : ℕ) → Below 0 m
  unfolding chain flat
  none_below m whole good j l = absurd (omega arith)

  left_below : (f m : ℕ) → Below f m
  left_below zero m = none_below m
  left_below (suc f) m = rw (← add-one f) (more-below f m (left_below f (m_efnu (header image m))))

  pub file-below : (n : ℕ) → IsFirst image n → good_chain image n ≡ true → (j : ℕ) → j < length (file_blocks image n) → get_or (file_blocks image n) j 0 < blocks image
  unfolding file_blocks good_chain chain_of
  file-below n first good = left_below 256 n first.1 good
