-- The loop is at n while none of the numbers from 6 to below n is spare and its run of slots stands at n.
use Rattle.std.proofs.Common.{sym, ap, arith, ◌∙◌, ◌+◌}
use Rattle.lists.specs.First.{first}
use Rattle.lists.proofs.FirstLaws.{first-here, first_on, first-none}
use Rattle.volume.proofs.VolumeLaws.{opens, says}
use Rattle.slots.proofs.SlotLaws.{read-inside, read-used}
use Rattle.spare_number.specs.SpareNumber.{is_spare, spare_number}
use Rattle.spare_number.proofs.SpareLaws.{spare-none}
use Rattle.spare_number.proofs.spare_number.Goals as goal

pub loop-n-init : goal.loop-n-init
unfolding spare_number
loop-n-init c =
    let image = c.args.image.now in
    (c.slot_run-run.ensures, ap (first (is_spare image) 6) (omega (arith, (says image c.args.v c.requires.1).fmax)))

pub bit_at-used-requires : goal.bit_at-used-requires
bit_at-used-requires c =
    read-inside c.args.image.now c.args.v c.requires _ c.region-map.ensures c.loop-n.n (omega arith) (omega arith)

pub is_spare-requires : goal.is_spare-requires
is_spare-requires c =
    (read-used c.args.image.now c.args.v c.requires _ c.region-map.ensures c.loop-n.n (omega arith) (omega arith) _ c.bit_at-used.ensures, c.loop-n.invariant.0)

pub returns-then-is_spare : goal.returns-then-is_spare
returns-then-is_spare c =
    (c.loop-n.invariant.1 ∙ first-here (is_spare c.args.image.now) c.loop-n.n (c.args.v.fmax + 1) c.loop-n-test.true (sym c.is_spare.ensures ∙ c.if-is_spare.true), omega arith)

pub loop-n-preserved : goal.loop-n-preserved
loop-n-preserved c =
    (c.next_run-run.ensures, c.loop-n.invariant.1 ∙ first_on (is_spare c.args.image.now) c.loop-n.n (c.args.v.fmax + 1) c.loop-n-test.true (sym c.is_spare.ensures ∙ c.if-is_spare.false))

pub returns-then-run-eq0 : goal.returns-then-run-eq0
returns-then-run-eq0 c =
    c.loop-n.invariant.1 ∙ spare-none c.args.image.now c.loop-n.n (c.args.v.fmax + 1) (c.loop-n.invariant.0.none c.if-run-eq0.true) (omega arith)

pub returns-after-loop-n : goal.returns-after-loop-n
returns-after-loop-n c =
    let image = c.args.image.now in
    c.loop-n.invariant.1 ∙ first-none (is_spare image) c.loop-n.n (c.args.v.fmax + 1) (omega arith) ∙ omega (arith, (opens image c.requires.0).enough, (says image c.args.v c.requires.1).fmax)
