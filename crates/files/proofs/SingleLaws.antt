-- How FILES sees that each header in use is the only one of its file.
use mathlib.Core.Path.{◌≡◌, ◌∙◌}
use mathlib.Core.Bool.{Bool, true, false, cond, and-eq-true_iff}
use mathlib.Core.List.{List}
use Prim.Native.Nat.{ℕ, ◌+◌}
use native.Mathlib.Decide.{ℕ_discrete}
use native.Mathlib.Omega.{arith}
use borrow.Author.Tests.{eqb-true}
use lib.Dec.{eqb}
use Rattle.image.specs.Blocks.{block}
use Rattle.header.specs.Fields.{segment, m_efnu}
use Rattle.volume.specs.Volume.{fmax, header, in_use}
use Rattle.slots.specs.declared.SlotRun.{SlotRun}
use Rattle.slots.specs.Slots.{Stands}
use Rattle.slots.proofs.SlotLaws.{stands_read, used-range}
use Rattle.files.specs.Files.{bad_file}
use Rattle.files.specs.Single.{is_single, UnlinkedBelow, Unlinked}
use Rattle.files.proofs.FileLaws.{good-slotted}

-- Both tests of a header.
single-is : (h : List ℕ) → is_single h ≡ true → (m_efnu h ≡ 0) × (segment h ≡ 0)
unfolding is_single
single-is h t =
    let r = (and-eq-true_iff (eqb (m_efnu h) 0) (eqb (segment h) 0)).0 t in
    (eqb-true (m_efnu h) 0 r.0, eqb-true (segment h) 0 r.1)

module _ (image : List ℕ) where
  -- 0 is not in use.
  pub unlinked-none : UnlinkedBelow image 1
  unlinked-none m l u = absurd (omega (arith, (used-range image m u).0))

  -- One number more, which does not offend.
  pub unlinked-next : (n : ℕ) (run : SlotRun) (used : Bool) → Stands image n run → used ≡ in_use image n → bad_file image n ≡ false
      → cond used (is_single (block image run.lbn.0)) true ≡ true → UnlinkedBelow image n → UnlinkedBelow image (n + 1)
  unlinked-next n run used s e good t below m l u = go (ℕ_discrete m n)
    where
      go : Dec (m ≡ n) → is_single (header image m) ≡ true
      go (yes q) =
          let v : in_use image n ≡ true = rw (← q) u in
          let b : used ≡ true = e ∙ v in
          let r : is_single (block image run.lbn.0) ≡ true = rw b at t in
          rw (q, ← stands_read image n run s (good-slotted image n good v)) r
      go (no q) = below m (omega arith) u

  pub unlinked-all : UnlinkedBelow image (fmax image + 1) → Unlinked image
  unlinked-all below = record { ends = λ n u. (go n u).0; first = λ n u. (go n u).1 }
    where
      go : (n : ℕ) → in_use image n ≡ true → (m_efnu (header image n) ≡ 0) × (segment (header image n) ≡ 0)
      go n u = single-is (header image n) (below n (omega (arith, (used-range image n u).1)) u)
