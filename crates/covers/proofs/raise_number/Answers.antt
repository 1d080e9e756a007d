-- A number in use has a slot and a whole header, since FILES is passed.
use Rattle.std.specs.Prelude.{Ok}
use mathlib.Core.Path.{◌≡◌, sym, ◌∙◌}
use mathlib.Core.Bool.{true}
use mathlib.Core.List.{List}
use Prim.Native.Nat.{ℕ}
use Rattle.image.specs.Blocks.{block}
use Rattle.volume.specs.Volume.{header, in_use}
use Rattle.volume.specs.Opening.{open_volume}
use Rattle.files.specs.Files.{files}
use Rattle.slots.specs.Slots.{Stands}
use Rattle.slots.specs.declared.SlotRun.{SlotRun}
use Rattle.marks.proofs.MarkLaws.{raised_by-none}
use Rattle.slots.proofs.SlotLaws.{stands_read}
use Rattle.covers.proofs.CoverLaws.{passes, used-fits, used-ends}
use Rattle.covers.proofs.raise_number.Goals as goal

-- The block that the run stands at is the header of a number in use.
read : (image : List ℕ) (n : ℕ) (run : SlotRun) (h : List ℕ) → open_volume image ≡ Ok tt → files image ≡ Ok tt → Stands image n run → in_use image n ≡ true → h ≡ block image run.lbn.0
    → h ≡ header image n
read image n run h o f s u e = e ∙ stands_read image n run s ((passes image o f).slotted n u)

pub raise_header-requires : goal.raise_header-requires
raise_header-requires c =
    let n : ℕ = c.args.n.0 in
    let p = c.requires in
    let used = sym p.3 ∙ c.if-used.true in
    let is = read c.args.image.now n c.args.run _ p.0 p.1 p.4 used c.block.ensures in
    (rw is (used-fits _ p.0 p.1 n used), rw is (used-ends _ p.0 p.1 n _ used p.2))

pub returns-then-used : goal.returns-then-used
returns-then-used c =
    let p = c.requires in
    let used = sym p.3 ∙ c.if-used.true in
    let is = read c.args.image.now c.args.n.0 c.args.run _ p.0 p.1 p.4 used c.block.ensures in
    rw (used, ← is) c.raise_header.ensures

pub returns-else-used : goal.returns-else-used
returns-else-used c = rw (← c.requires.3, c.if-used.false) (sym (raised_by-none c.args.area.now))
