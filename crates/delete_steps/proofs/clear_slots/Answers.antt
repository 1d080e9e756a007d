-- After each turn the slots so far are cleared.
use mathlib.Core.Path.{sym}
use Prim.Native.Nat.{◌<◌}
use native.Mathlib.Omega.{arith}
use lib.ListN.{take, length-take}
use lib.Seq.{get_or-take}
use Rattle.std.proofs.lemmas.List.{take_all}
use Rattle.delete_steps.proofs.StepLaws.{clear_none, clear-more}
use Rattle.delete_steps.proofs.clear_slots.Goals as goal

pub loop-slot-init : goal.loop-slot-init
loop-slot-init c = sym (clear_none _ (take c.args.count c.args.slots))

pub clear_at-requires : goal.clear_at-requires
clear_at-requires c =
    let i = c.loop-slot.slot-index in
    let low : i < c.args.count = omega (arith, length-take c.args.count c.args.slots) in
    omega (arith, get_or-take c.args.count c.args.slots i 0 low, c.requires.1.each i low)

pub loop-slot-preserved : goal.loop-slot-preserved
loop-slot-preserved c =
    clear-more c.args.image.now (take c.args.count c.args.slots) c.loop-slot.slot-index c.loop-slot-test.true _ _ c.loop-slot.invariant c.clear_at.ensures

pub returns : goal.returns
returns c =
    let e = take_all c.loop-slot.slot-index (take c.args.count c.args.slots) c.loop-slot-test.false in
    rw e at c.loop-slot.invariant
