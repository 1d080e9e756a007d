-- The part that is lent is the slot.
use Prim.Native.Nat.{◌+◌, ◌*◌, ◌-◌}
use native.Mathlib.Omega.{arith}
use Rattle.header_edit.specs.Cleared.{cleared_slot}
use Rattle.image.proofs.WriteLaws.{part-block}
use Rattle.delete_steps.proofs.clear_at.Goals as goal

pub returns : goal.returns
returns c =
    let f = c.clear_slot in
    let a = c.args in
    part-block a.image.now a.lbn.0 (512 * a.lbn.0 + 512 - 512 * a.lbn.0) cleared_slot _ (omega arith) (omega arith) f.auto.h f.ensures
