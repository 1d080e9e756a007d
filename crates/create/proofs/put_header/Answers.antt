-- The part that is lent is the block.
use mathlib.Core.List.{List}
use native.Mathlib.Omega.{arith}
use Prim.Native.Nat.{ℕ, ◌+◌, ◌*◌, ◌-◌}
use Rattle.fresh_header.specs.Fresh.{fresh_header}
use Rattle.image.proofs.WriteLaws.{part-block}
use Rattle.create.proofs.put_header.Goals as goal

pub returns : goal.returns
returns c =
    let f = c.put_fresh in
    let a = c.args in
    let new = fresh_header a.id.number a.id.sequence a.owner a.protection a.name in
    part-block a.image.now a.lbn.0 (512 * a.lbn.0 + 512 - 512 * a.lbn.0) (λ (h : List ℕ). new) _ (omega arith) (omega arith) f.auto.h f.ensures
