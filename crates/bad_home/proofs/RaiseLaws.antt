-- A walk over the headers of file 3 that raises the marks of their blocks.
use Rattle.std.specs.Prelude.{Ok}
use mathlib.Core.Path.{◌≡◌, refl, sym, ap, ◌∙◌}
use mathlib.Core.Bool.{true, and-eq-true_iff}
use mathlib.Core.List.{List}
use Prim.Native.Nat.{ℕ, ◌+◌}
use native.Mathlib.Omega.{arith}
use borrow.Author.Tests.{le-leb}
use lib.ListN.{length, take}
use lib.Seq.{take-length}
use Rattle.header.specs.Fields.{m_efnu}
use Rattle.pointers.specs.Pointers.{blocks_of}
use Rattle.volume.specs.Volume.{slots, has_slot, header, in_use, is_number}
use Rattle.volume.specs.Opening.{open_volume}
use Rattle.chains.specs.Chains.{NextHeader, IsFirst, file_blocks}
use Rattle.chains.proofs.ChainLaws.{Walk, walk_start, walk-take, walk-end-length, walk-next}
use Rattle.marks.specs.Marks.{raised_by}
use Rattle.marks.proofs.MarkLaws.{raised_by-none, raised_by-append, raised_by-length}
use Rattle.files.specs.Files.{files}
use Rattle.covers.proofs.CoverLaws.{passes}

-- The walk has come to header h; in the area the marks of the file's blocks before that header's are raised.
pub record Raised (image area₀ area h : List ℕ) : Type 0 where
  pub past : ℕ
  pub walk : Walk image 3 h past
  pub marks : area ≡ raised_by area₀ (take past (file_blocks image 3))

pub raised-start : (image area : List ℕ) → IsFirst image 3 → Raised image area area (header image 3)
raised-start image area first = record { past = 0; walk = walk_start image 3 first; marks = sym (raised_by-none area) }

module _ (image area₀ area h : List ℕ) (r : Raised image area₀ area h) where
  pub raised_long : length area ≡ length area₀
  raised_long = ap length r.marks ∙ raised_by-length area₀ (take r.past (file_blocks image 3))

  -- With the marks of the header's own blocks.
  with-own : raised_by area (blocks_of h) ≡ raised_by area₀ (take (r.past + length (blocks_of h)) (file_blocks image 3))
  with-own =
      ap (λ (m : List ℕ). raised_by m (blocks_of h)) r.marks
      ∙ sym (raised_by-append area₀ (take r.past (file_blocks image 3)) (blocks_of h))
      ∙ ap (raised_by area₀) (sym (walk-take image 3 h r.past r.walk))

  pub raised-next : (new next : List ℕ) → new ≡ raised_by area (blocks_of h) → NextHeader image h next → Raised image area₀ new next
  raised-next new next e f = record {
    past = r.past + length (blocks_of h);
    walk = walk-next image 3 h r.past r.walk next f;
    marks = e ∙ with-own;
  }

  pub raised-end : m_efnu h ≡ 0 → raised_by area (blocks_of h) ≡ raised_by area₀ (file_blocks image 3)
  raised-end e =
      with-own
      ∙ ap (raised_by area₀) (ap (λ (k : ℕ). take k (file_blocks image 3)) (sym (walk-end-length image 3 h r.past r.walk e)) ∙ take-length (file_blocks image 3))

  -- The header is in use.
  pub raised-used : in_use image r.walk.number ≡ true
  unfolding is_number
  raised-used = ((and-eq-true_iff (in_use image r.walk.number) (has_slot image r.walk.number)).0 r.walk.used).0

-- File 3 on a volume that opens and passes FILES.
module _ (image : List ℕ) (o : open_volume image ≡ Ok tt) (f : files image ≡ Ok tt) where
  pub three-used : in_use image 3 ≡ true
  three-used = ((passes image o f).known 3 (omega arith) (omega arith)).used

  pub three-number : is_number image 3 ≡ true
  unfolding is_number has_slot
  three-number = rw (three-used, le-leb 3 (slots image) ((passes image o f).slotted 3 three-used)) refl

  pub three-first : IsFirst image 3
  three-first = (three-number, (passes image o f).whole 3 three-used, ((passes image o f).known 3 (omega arith) (omega arith)).first)
