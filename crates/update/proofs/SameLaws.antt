-- What a number that stays in use keeps from one image to the next: its places, and the link from its header.
use mathlib.Core.Path.{◌≡◌, sym, ap, ◌∙◌}
use mathlib.Core.Bool.{true, and-false}
use mathlib.Core.List.{List}
use Prim.Native.Nat.{ℕ, ◌+◌, ◌-◌, ◌≤◌, ◌<◌}
use native.Mathlib.Decide.{dec_lt}
use native.Mathlib.Omega.{arith}
use borrow.Author.Tests.{lt-leb}
use Rattle.image.specs.Bits.{bit_at}
use Rattle.header.specs.Fields.{h_fseq, segment, m_efnu, m_efsq}
use Rattle.home.specs.Home.{blocks}
use Rattle.volume.specs.Volume.{slots, header, fault_of, in_use, fmax, index_map}
use Rattle.sound.specs.Sound.{GoodLink, Known, Covers}

-- The fields of header k that links and known files are judged by.
pub record Alike (image image' : List ℕ) (k : ℕ) : Type 0 where
  pub efnu : m_efnu (header image' k) ≡ m_efnu (header image k)
  pub efsq : m_efsq (header image' k) ≡ m_efsq (header image k)
  pub fseq : h_fseq (header image' k) ≡ h_fseq (header image k)
  pub seg : segment (header image' k) ≡ segment (header image k)

module _ (image image' : List ℕ) where
  -- A header that is the same is alike, has the same first unmet test and the same places.
  pub alike : (k : ℕ) → header image' k ≡ header image k → Alike image image' k
  alike k e = record { efnu = ap m_efnu e; efsq = ap m_efsq e; fseq = ap h_fseq e; seg = ap segment e }

  pub fault-same : (k : ℕ) → blocks image' ≡ blocks image → header image' k ≡ header image k → fault_of image' k ≡ fault_of image k
  unfolding fault_of
  fault-same k b e = rw (b, e)

  pub covers-same : (k p j : ℕ) → in_use image' k ≡ true → header image' k ≡ header image k → Covers image k p j → Covers image' k p j
  covers-same k p j u e c = record { used = u; inside = rw e c.inside; here = rw e c.here }

  pub known_same : (k : ℕ) → in_use image' k ≡ true → Alike image image' k → Known image k → Known image' k
  known_same k u a known = record { used = u; sequence = a.fseq ∙ known.sequence; first = a.seg ∙ known.first }

  -- Header k and the header that it links to are alike; that one is in use and whole.
  pub link-same : (k : ℕ) → slots image' ≡ slots image → Alike image image' k → Alike image image' (m_efnu (header image k))
      → in_use image' (m_efnu (header image k)) ≡ true → fault_of image' (m_efnu (header image k)) ≡ 0 → GoodLink image k → GoodLink image' k
  link-same k same a to used whole g = record {
    used = rw a.efnu used;
    slotted = rw (a.efnu, same) g.slotted;
    whole = rw a.efnu whole;
    sequence = rw a.efnu (to.fseq ∙ g.sequence ∙ sym a.efsq);
    next = rw a.efnu (to.seg ∙ g.next ∙ ap (λ (x : ℕ). x + 1) (sym a.seg));
  }

-- Which numbers are in use, where H.FMAX is the same: by the bits of the index map.
pub used-same : (image image' : List ℕ) → fmax image' ≡ fmax image → (k : ℕ)
    → (1 ≤ k → k ≤ fmax image → bit_at (index_map image') (k - 1) ≡ bit_at (index_map image) (k - 1)) → in_use image' k ≡ in_use image k
unfolding in_use
used-same image image' e k bits = go (dec_lt 0 k) (dec_lt (fmax image) k)
  where
    go : Dec (0 < k) → Dec (fmax image < k) → in_use image' k ≡ in_use image k
    go (no l) d = rw (lt-leb 1 k (omega arith))
    go (yes l) (yes h) = rw (e, lt-leb k (fmax image) h, and-false)
    go (yes l) (no h) = rw (e, bits l (omega arith))
