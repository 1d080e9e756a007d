-- A number is tested by its bit in the index map and the header where the run stands.
use native.Mathlib.Omega.{arith}
use mathlib.Core.Path.{◌≡◌, sym, subst, ap, ◌∙◌}
use Prim.Native.Nat.{◌+◌}
use Rattle.lists.specs.First.{first}
use Rattle.lists.proofs.FirstLaws.{first-here, first_on, first-none}
use Rattle.volume.specs.Volume.{fmax}
use Rattle.volume.proofs.VolumeLaws.{says}
use Rattle.slots.proofs.SlotLaws.{read-inside, read-used}
use Rattle.files.specs.Files.{bad_file, files_place}
use Rattle.files.specs.Single.{UnlinkedBelow}
use Rattle.files.proofs.FileLaws.{fmax-few}
use Rattle.files.proofs.SingleLaws.{unlinked-none, unlinked-next}
use Rattle.files.proofs.first_bad_file.Goals as goal
use Rattle.files.proofs.first_bad_file.Goals.{then-single, else-single}

pub overflow_add-number-end : goal.overflow_add-number-end
overflow_add-number-end c = omega (arith, fmax-few c.args.image.now c.args.v c.requires c.type_inv.image)

pub loop-number-init : goal.loop-number-init
unfolding files_place
loop-number-init c =
    let image = c.args.image.now in
    record {
      stands = c.slot_run-run.ensures;
      place = ap (first (bad_file image) 1) (omega (arith, (says image c.args.v c.requires.1).fmax));
      singles = λ _. unlinked-none image;
    }

pub bit_at-used-requires : goal.bit_at-used-requires
bit_at-used-requires c = read-inside c.args.image.now c.args.v c.requires _ c.region-map.ensures c.loop-number.number (omega arith) (omega arith)

pub is_bad_file-requires : goal.is_bad_file-requires
is_bad_file-requires c =
    ((c.requires.0, c.requires.1), c.loop-number.invariant.stands, read-used c.args.image.now c.args.v c.requires _ c.region-map.ensures c.loop-number.number (omega arith) (omega arith) _ c.bit_at-used.ensures, omega arith)

pub returns-then-is_bad_file : goal.returns-then-is_bad_file
returns-then-is_bad_file c =
    let a = c.args in (
      c.loop-number.invariant.place ∙ first-here (bad_file a.image.now) c.loop-number.number (a.v.fmax + 1) (omega arith) (sym c.is_bad_file.ensures ∙ c.if-is_bad_file.true),
      omega (arith, (says a.image.now a.v c.requires.1).fmax),
    )

pub next_run-run-requires : goal.next_run-run-requires
next_run-run-requires c =
    (c.requires, c.loop-number.invariant.stands, omega (arith, fmax-few c.args.image.now c.args.v c.requires c.type_inv.image))

pub loop-number-preserved : goal.loop-number-preserved
loop-number-preserved c =
    let a = c.args in
    let l = c.loop-number in
    let good = sym c.is_bad_file.ensures ∙ c.if-is_bad_file.false in
    let used = read-used a.image.now a.v c.requires _ c.region-map.ensures l.number (omega arith) (omega arith) _ c.bit_at-used.ensures in
    record {
      stands = c.next_run-run.ensures;
      place = l.invariant.place ∙ first_on (bad_file a.image.now) l.number (a.v.fmax + 1) (omega arith) good;
      singles = λ t. elim c.if-single.branch [
        | then-single w ↦ unlinked-next a.image.now l.number l.run _ l.invariant.stands used good (sym w.is_single-single.ensures ∙ sym w.single-is ∙ t) (l.invariant.singles w.if-single.true)
        | else-single w ↦ cc
      ];
    }

pub returns : goal.returns
returns c =
    let a = c.args in
    let l = c.loop-number in
    let e : l.number ≡ fmax a.image.now + 1 = omega (arith, (says a.image.now a.v c.requires.1).fmax) in
    (l.invariant.place ∙ first-none (bad_file a.image.now) l.number (a.v.fmax + 1) (omega arith) ∙ e, λ t. subst (UnlinkedBelow a.image.now) e (l.invariant.singles t))
