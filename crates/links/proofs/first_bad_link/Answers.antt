-- A number is tested by its bit in the index map, the header where the run stands, and its mark.
use native.Mathlib.Omega.{arith}
use mathlib.Core.Path.{◌≡◌, sym, ap, ◌∙◌}
use mathlib.Core.List.{List}
use Prim.Native.Nat.{ℕ, ◌+◌, ◌-◌}
use Rattle.image.specs.Words.{byte_at}
use Rattle.lists.specs.First.{first}
use Rattle.lists.proofs.FirstLaws.{first-here, first_on, first-none}
use Rattle.volume.specs.Volume.{fmax}
use Rattle.volume.proofs.VolumeLaws.{says}
use Rattle.marks.specs.Marks.{capped}
use Rattle.marks.proofs.MarkLaws.{tallied-at}
use Rattle.slots.proofs.SlotLaws.{read-inside, read-used}
use Rattle.files.proofs.FileLaws.{fmax-few}
use Rattle.links.specs.Links.{linked, bad_links, links_place}
use Rattle.links.proofs.first_bad_link.Goals as goal

pub overflow_add-number-end : goal.overflow_add-number-end
overflow_add-number-end c = omega (arith, fmax-few c.args.image.now c.args.v c.requires.0 c.type_inv.image)

pub loop-number-init : goal.loop-number-init
unfolding links_place
loop-number-init c =
    let image = c.args.image.now in
    record {
      stands = c.slot_run-run.ensures;
      place = ap (first (bad_links image (linked image)) 1) (omega (arith, (says image c.args.v c.requires.0.1).fmax));
    }

pub bit_at-used-requires : goal.bit_at-used-requires
bit_at-used-requires c = read-inside c.args.image.now c.args.v c.requires.0 _ c.region-map.ensures c.loop-number.number (omega arith) (omega arith)

pub bounds-headers-i : goal.bounds-headers-i
bounds-headers-i c = omega (arith, (says c.args.image.now c.args.v c.requires.0.1).fmax, c.requires.2)

pub is_bad_link-requires : goal.is_bad_link-requires
is_bad_link-requires c =
    let image = c.args.image.now in
    let headers = c.args.headers.now in
    let n = c.loop-number.number in
    let few = (says image c.args.v c.requires.0.1).fmax in (
      c.requires.0,
      c.requires.1,
      c.loop-number.invariant.stands,
      read-used image c.args.v c.requires.0 _ c.region-map.ensures n (omega arith) (omega arith) _ c.bit_at-used.ensures,
      ap (λ (h : List ℕ). byte_at h (n - 1)) c.requires.3 ∙ tallied-at (linked image) 1 (fmax image) headers (n - 1) (omega (arith, few)) ∙ ap (capped (linked image)) (omega arith),
    )

pub returns-then-is_bad_link : goal.returns-then-is_bad_link
returns-then-is_bad_link c =
    let a = c.args in (
      c.loop-number.invariant.place ∙ first-here (bad_links a.image.now (linked a.image.now)) c.loop-number.number (a.v.fmax + 1) (omega arith) (sym c.is_bad_link.ensures ∙ c.if-is_bad_link.true),
      omega (arith, (says a.image.now a.v c.requires.0.1).fmax),
    )

pub next_run-run-requires : goal.next_run-run-requires
next_run-run-requires c =
    (c.requires.0, c.loop-number.invariant.stands, omega (arith, fmax-few c.args.image.now c.args.v c.requires.0 c.type_inv.image))

pub loop-number-preserved : goal.loop-number-preserved
loop-number-preserved c =
    let a = c.args in
    record {
      stands = c.next_run-run.ensures;
      place =
          c.loop-number.invariant.place
          ∙ first_on (bad_links a.image.now (linked a.image.now)) c.loop-number.number (a.v.fmax + 1) (omega arith) (sym c.is_bad_link.ensures ∙ c.if-is_bad_link.false);
    }

pub returns : goal.returns
returns c =
    let a = c.args in
    let n = c.loop-number.number in
    let e : n ≡ fmax a.image.now + 1 = omega (arith, (says a.image.now a.v c.requires.0.1).fmax) in
    c.loop-number.invariant.place ∙ first-none (bad_links a.image.now (linked a.image.now)) n (a.v.fmax + 1) (omega arith) ∙ e
