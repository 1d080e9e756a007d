-- The slot that was found is that of a number in use, and FILES has shown the header in it to be whole.
use Rattle.std.specs.Prelude.{Ok, Some}
use native.Mathlib.Omega.{arith}
use mathlib.Core.Path.{◌≡◌, sym, ap, ◌∙◌}
use mathlib.Core.Bool.{◌&&◌}
use mathlib.Core.List.{List}
use Prim.Native.Nat.{ℕ, ◌+◌}
use borrow.Author.Tests.{eq-eqb, ne_eqb}
use lib.Dec.{eqb}
use Rattle.answer.specs.declared.types.Lbn.{Lbn}
use Rattle.image.specs.Blocks.{block}
use Rattle.header.specs.Fields.{h_fseq, segment, m_efnu, m_efsq}
use Rattle.volume.specs.Opening.{open_volume}
use Rattle.volume.proofs.VolumeLaws.{opens}
use Rattle.chains.specs.Chains.{slot_in_use, good_link}
use Rattle.chains.proofs.LinkLaws.{slot-found, link-end}
use Rattle.files.specs.Files.{files}
use Rattle.files.proofs.FileLaws.{files-passed, number-read}
use Rattle.links.proofs.LinksLaws.{good-number, good_none}
use Rattle.links.proofs.has_good_link.Goals as goal

-- What a link comes to by the header in the slot that was found.
linked-by : (image h next : List ℕ) (n : ℕ) (lbn : Lbn) → open_volume image ≡ Ok tt → files image ≡ Ok tt → n ≡ m_efnu h → (n ≡ 0 → ⊥) → slot_in_use image n ≡ Some lbn
    → next ≡ block image lbn.0 → good_link image h ≡ (eqb (h_fseq next) (m_efsq h) && eqb (segment next) (segment h + 1))
linked-by image h next n lbn o f e some found read =
    let r = number-read image (m_efnu h) lbn next (ap (slot_in_use image) (sym e) ∙ found) read in
    rw r.1 (good-number image h (files-passed image (opens image o).enough f) (omega arith) r.0)

pub returns-then-n-eq0 : goal.returns-then-n-eq0
returns-then-n-eq0 c = sym (link-end c.args.image.now c.args.h.now (omega (arith, c.from.ensures, c.m_efnu.ensures)))

pub returns-in_default : goal.returns-in_default
returns-in_default c =
    let a = c.args in
    let e : m_efnu a.h.now ≡ c.from.result = omega (arith, c.from.ensures, c.m_efnu.ensures) in
    let none = slot-found a.image.now (m_efnu a.h.now) _ (ap (slot_in_use a.image.now) e ∙ sym c.slot_in_use.ensures ∙ c.in_default.is) in
    sym (good_none a.image.now a.h.now (omega (arith, e)) none)

pub returns-then-h_fseq-m_efsq : goal.returns-then-h_fseq-m_efsq
returns-then-h_fseq-m_efsq c =
    let a = c.args in
    let next = c.block-next.result.now in
    let e : c.from-then-h_fseq-m_efsq.result ≡ segment next = omega (arith, c.from-then-h_fseq-m_efsq.ensures, c.segment.ensures) in
    let m : c.from-then-h_fseq-m_efsq-2.result ≡ segment a.h.now = omega (arith, c.from-then-h_fseq-m_efsq-2.ensures, c.segment-then-h_fseq-m_efsq.ensures) in
    rw (
      linked-by a.image.now a.h.now next c.from.result c.in-Some.lbn c.requires.0.0 c.requires.1 (omega (arith, c.from.ensures, c.m_efnu.ensures)) (omega arith) (sym c.slot_in_use.ensures ∙ c.in-Some.is) c.block-next.ensures,
      ← c.h_fseq.ensures,
      ← c.m_efsq.ensures,
      eq-eqb c.h_fseq.result c.m_efsq.result c.if-h_fseq-m_efsq.true,
      e,
      m,
    )

pub returns-else-h_fseq-m_efsq : goal.returns-else-h_fseq-m_efsq
returns-else-h_fseq-m_efsq c =
    let a = c.args in
    rw (
      linked-by a.image.now a.h.now c.block-next.result.now c.from.result c.in-Some.lbn c.requires.0.0 c.requires.1 (omega (arith, c.from.ensures, c.m_efnu.ensures)) (omega arith) (sym c.slot_in_use.ensures ∙ c.in-Some.is) c.block-next.ensures,
      ← c.h_fseq.ensures,
      ← c.m_efsq.ensures,
      ne_eqb c.h_fseq.result c.m_efsq.result c.if-h_fseq-m_efsq.false,
    )
