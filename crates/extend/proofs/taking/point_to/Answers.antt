-- The part that is lent is the header's block.
use mathlib.Core.Path.{◌≡◌}
use mathlib.Core.List.{List}
use Prim.Native.Nat.{ℕ, ◌+◌, ◌*◌, ◌-◌}
use native.Mathlib.Omega.{arith}
use Rattle.image.specs.Blocks.{block}
use Rattle.image.proofs.BlockLaws.{block-length}
use Rattle.header_edit.specs.Extended.{extended_header}
use Rattle.image.proofs.WriteLaws.{part-block}
use Rattle.extend.proofs.taking.point_to.Goals as goal

pub add_pointer-requires : goal.add_pointer-requires
unfolding block
add_pointer-requires c =
    let at = 512 * c.args.last.0 in
    let e : at + 512 - at ≡ 512 = omega arith in
    rw e (block-length c.args.image.now c.args.last.0 c.requires.0, c.requires.1, c.requires.2, c.requires.3, c.requires.4, c.requires.5)

pub returns : goal.returns
returns c =
    let f = c.add_pointer in
    let a = c.args in
    let at = 512 * a.last.0 in
    part-block a.image.now a.last.0 (at + 512 - at) (λ (h : List ℕ). extended_header h a.lbn.0 a.c) _ (omega arith) (omega arith) f.auto.h f.ensures
