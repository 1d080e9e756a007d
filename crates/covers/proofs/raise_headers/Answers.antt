-- Before number n the blocks of the headers in use below it are raised, and the run stands at n.
use mathlib.Core.Path.{◌≡◌, sym, ap, ◌∙◌}
use mathlib.Core.Bool.{cond}
use mathlib.Core.List.{List, []}
use Prim.Native.Nat.{ℕ, ◌-◌, ◌<◌}
use native.Mathlib.Omega.{arith}
use Rattle.pointers.specs.Pointers.{blocks_of}
use Rattle.volume.specs.Volume.{fmax, header, in_use}
use Rattle.marks.specs.Marks.{raised_by}
use Rattle.marks.proofs.MarkLaws.{raised_by-none}
use Rattle.slots.specs.Slots.{gathered}
use Rattle.slots.proofs.SlotLaws.{gathered_none, opened-fmax, read-inside, read-used}
use Rattle.covers.specs.Covered.{covered}
use Rattle.covers.proofs.CoverLaws.{raised-more}
use Rattle.covers.proofs.raise_headers.Goals as goal

pub overflow_add-number-end : goal.overflow_add-number-end
overflow_add-number-end c =
    omega (arith, opened-fmax c.args.image.now c.args.v c.requires.0 (record { each = λ i. omega (arith, c.type_inv.image i) }))

pub loop-number-init : goal.loop-number-init
loop-number-init c = (sym (ap (raised_by _) (gathered_none _ _) ∙ raised_by-none _), c.slot_run-run.ensures)

pub bit_at-used-requires : goal.bit_at-used-requires
bit_at-used-requires c =
    read-inside c.args.image.now c.args.v c.requires.0 _ c.region-map.ensures c.loop-number.number (omega arith) (omega arith)

pub raise_number-requires : goal.raise_number-requires
raise_number-requires c =
    let used = read-used c.args.image.now c.args.v c.requires.0 _ c.region-map.ensures c.loop-number.number (omega arith) (omega arith) _ c.bit_at-used.ensures in
    (c.requires.0.0, c.requires.1, omega arith, used, c.loop-number.invariant.1)

pub next_run-run-requires : goal.next_run-run-requires
next_run-run-requires c =
    let last : (c.args.v.fmax ≡ fmax c.args.image.now) × (c.args.v.fmax < 65536) =
    opened-fmax c.args.image.now c.args.v c.requires.0 (record { each = λ i. omega (arith, c.type_inv.image i) }) in
    (c.requires.0, c.loop-number.invariant.1, omega (arith, last))

pub loop-number-preserved : goal.loop-number-preserved
loop-number-preserved c =
    let image : List ℕ = c.args.image.now in
    let n = c.loop-number.number in
    let more = cond (in_use image n) (blocks_of (header image n)) [] in (
      c.raise_number.ensures ∙ ap (λ (m : List ℕ). raised_by m more) c.loop-number.invariant.0 ∙ raised-more image c.args.area.now n (omega arith),
      c.next_run-run.ensures,
    )

pub returns : goal.returns
unfolding covered
returns c =
    let image : List ℕ = c.args.image.now in
    let last : (c.args.v.fmax ≡ fmax image) × (c.args.v.fmax < 65536) =
    opened-fmax image c.args.v c.requires.0 (record { each = λ i. omega (arith, c.type_inv.image i) }) in
    let e : c.loop-number.number - 1 ≡ fmax image = omega (arith, last) in
    c.loop-number.invariant.0 ∙ ap (λ (k : ℕ). raised_by c.args.area.now (gathered image blocks_of k)) e
