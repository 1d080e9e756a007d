-- Each turn carries the row on over the blocks of one pointer.
use native.Mathlib.Omega.{arith}
use mathlib.Core.Path.{◌≡◌, ap₂, sym, ◌∙◌}
use mathlib.Core.List.{◌++◌}
use Prim.Native.Nat.{ℕ}
use Rattle.pointers.specs.Pointers.{pointers, runs, blocks_of}
use Rattle.rows.specs.Rows.{row_in}
use Rattle.rows.proofs.RowLaws.{row-no-pointer, row-pointer}
use Rattle.rows.proofs.row_over.Goals as goal

pub loop-p-init : goal.loop-p-init
loop-p-init c lbns i e = e ∙ sym (row-no-pointer c.args.h.now c.first_pointer-at.result lbns i)

pub loop-p-preserved : goal.loop-p-preserved
loop-p-preserved c lbns i e =
    row-pointer c.args.h.now c.first_pointer-at.result lbns i c.loop-p.p _ _ _ _ (c.loop-p.invariant lbns i e) c.pointer_lbn-from.ensures.0 c.pointer_count-c.ensures.0 c.carry_on-carried.ensures

pub returns : goal.returns
unfolding blocks_of
returns c lbns i e =
    let h = c.args.h.now in
    let q : c.loop-p.p ≡ pointers h = omega arith in
    c.loop-p.invariant lbns i e ∙ ap₂ (λ (at p : ℕ). row_in (lbns ++ runs h at p) i) c.first_pointer-at.ensures.0 q
