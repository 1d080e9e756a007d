-- The tests of the definition, one after the other.
use native.Mathlib.Omega.{arith}
use mathlib.Core.Path.{◌≡◌, sym, ◌∙◌}
use mathlib.Core.List.{List}
use Prim.Native.Nat.{ℕ, ◌≤◌}
use borrow.Author.Tests.{eq-eqb, ne_eqb, lt-leb}
use lib.ListN.{length}
use Rattle.image.specs.Blocks.{block}
use Rattle.header.specs.Fields.{h_fseq}
use Rattle.whole.specs.Whole.{fault}
use Rattle.volume.specs.Opening.{Open}
use Rattle.volume.specs.declared.Volume.{Volume}
use Rattle.volume.specs.Volume.{slots, header, fault_of}
use Rattle.volume.proofs.VolumeLaws.{opens, says, header-length}
use Rattle.slots.specs.declared.SlotRun.{SlotRun}
use Rattle.slots.specs.Slots.{Stands}
use Rattle.slots.proofs.SlotLaws.{stands_at, stands-header, stands-none}
use Rattle.files.proofs.FileLaws.{bad-unused, bad-slotless, bad-torn, bad-other, bad-known}
use Rattle.files.proofs.is_bad_file.Goals as goal

-- What is read where the run of slots stands, and the test of it.
record Read (image : List ℕ) (v : Volume) (n : ℕ) (h : List ℕ) : Type 0 where
  slotted : n ≤ slots image
  is : h ≡ header image n
  long : length h ≡ 512
  tested : fault v.blocks n h ≡ fault_of image n

read : (image : List ℕ) (v : Volume) (n : ℕ) (run : SlotRun) (h : List ℕ) → Open image v → 1 ≤ n → Stands image n run → 1 ≤ run.left → h ≡ block image run.lbn.0 → Read image v n h
unfolding fault_of
read image v n run h o l s some e =
    let is : h ≡ header image n = e ∙ stands-header image n run s some in
    let slotted = (stands_at image n run s some).0 in
    record { slotted = slotted; is = is; long = rw is (header-length (opens image o.0) n l slotted); tested = rw ((says image v o.1).blocks, is) }

pub returns-then-not-used : goal.returns-then-not-used
returns-then-not-used c = sym (bad-unused c.args.image.now c.args.n.0 (sym c.requires.2 ∙ c.if-not-used.true))

pub returns-then-run-eq0 : goal.returns-then-run-eq0
returns-then-run-eq0 c =
    let a = c.args in
    sym (bad-slotless a.image.now a.n.0 (sym c.requires.2 ∙ c.if-not-used.false) (stands-none a.image.now a.n.0 a.run c.requires.1 (omega arith)))

pub fault-requires : goal.fault-requires
fault-requires c =
    let a = c.args in
    (read a.image.now a.v a.n.0 a.run _ c.requires.0 c.requires.3 c.requires.1 (omega arith) c.block-h.ensures).long

pub returns-then-fault-ne0 : goal.returns-then-fault-ne0
returns-then-fault-ne0 c =
    let a = c.args in
    let r : Read a.image.now a.v a.n.0 c.block-h.result.now = read a.image.now a.v a.n.0 a.run _ c.requires.0 c.requires.3 c.requires.1 (omega arith) c.block-h.ensures in
    rw (ne_eqb c.fault.result 0 (omega arith)) (sym (bad-torn a.image.now a.n.0 (sym c.requires.2 ∙ c.if-not-used.false) (omega (arith, c.fault.ensures, r.tested))))

pub returns-then-from-n : goal.returns-then-from-n
returns-then-from-n c =
    let a = c.args in
    let r : Read a.image.now a.v a.n.0 c.block-h.result.now = read a.image.now a.v a.n.0 a.run _ c.requires.0 c.requires.3 c.requires.1 (omega arith) c.block-h.ensures in
    rw (
      bad-known a.image.now a.n.0 (sym c.requires.2 ∙ c.if-not-used.false) r.slotted (omega (arith, c.fault.ensures, r.tested)) (omega arith),
      ← r.is,
      ne_eqb c.from.result a.n.0 (omega arith),
      ne_eqb (h_fseq c.block-h.result.now) a.n.0 (omega (arith, c.from.ensures, c.h_fseq.ensures)),
    )

pub returns-else-from-n : goal.returns-else-from-n
returns-else-from-n c =
    let a = c.args in
    let r : Read a.image.now a.v a.n.0 c.block-h.result.now = read a.image.now a.v a.n.0 a.run _ c.requires.0 c.requires.3 c.requires.1 (omega arith) c.block-h.ensures in
    rw (
      bad-known a.image.now a.n.0 (sym c.requires.2 ∙ c.if-not-used.false) r.slotted (omega (arith, c.fault.ensures, r.tested)) (omega arith),
      ← r.is,
      eq-eqb (h_fseq c.block-h.result.now) a.n.0 (omega (arith, c.from.ensures, c.h_fseq.ensures)),
      ← c.segment.ensures,
    )

pub returns-else-n-le5 : goal.returns-else-n-le5
returns-else-n-le5 c =
    let a = c.args in
    let r : Read a.image.now a.v a.n.0 c.block-h.result.now = read a.image.now a.v a.n.0 a.run _ c.requires.0 c.requires.3 c.requires.1 (omega arith) c.block-h.ensures in
    rw (lt-leb a.n.0 5 (omega arith)) (sym (bad-other a.image.now a.n.0 (sym c.requires.2 ∙ c.if-not-used.false) r.slotted (omega (arith, c.fault.ensures, r.tested)) (omega arith)))
