-- A pointer that ends past the last block is the one that fails.
use mathlib.Core.Path.{◌≡◌, sym, ap, ◌∙◌}
use Prim.Native.Nat.{ℕ, ◌+◌, ◌*◌}
use native.Mathlib.Omega.{arith}
use borrow.Author.Tests.{lt-leb}
use Rattle.lists.proofs.BelowLaws.{below_fails}
use Rattle.pointers.specs.Pointers.{pointers_at, pointers, pointer_lbn, pointer_count}
use Rattle.whole.specs.Whole.{ends_inside}
use Rattle.whole.proofs.pointers_end_inside.Goals as goal

pub returns-then-blocks-pointer_lbn : goal.returns-then-blocks-pointer_lbn
unfolding ends_inside
returns-then-blocks-pointer_lbn c =
    let a = c.args in
    let h = a.h.now in
    let at = pointers_at h + 4 * c.loop-p.p in
    let e : c.first_pointer-at.result + 4 * c.loop-p.p ≡ at = ap (λ (x : ℕ). x + 4 * c.loop-p.p) c.first_pointer-at.ensures.0 in
    let lbn : c.pointer_lbn.result.0 ≡ pointer_lbn h at = c.pointer_lbn.ensures.0 ∙ ap (pointer_lbn h) e in
    let count : c.pointer_count.result ≡ pointer_count h at = c.pointer_count.ensures.0 ∙ ap (pointer_count h) e in
    sym (below_fails (pointers h) (ends_inside a.blocks h) c.loop-p.p (omega arith) (lt-leb (pointer_lbn h at + pointer_count h at) a.blocks (omega arith)))
