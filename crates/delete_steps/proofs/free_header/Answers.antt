-- After p turns the blocks of the first p pointers are free. The header lies outside the map, so each turn reads it as it was.
use mathlib.Core.Path.{◌≡◌, sym, ap, ap₂, ◌∙◌}
use mathlib.Core.List.{List, ◌++◌}
use Prim.Native.Nat.{ℕ, ◌+◌, ◌*◌}
use native.Mathlib.Omega.{arith}
use Rattle.image.specs.Blocks.{block}
use Rattle.pointers.specs.Pointers.{pointers_at, pointers, run, runs, blocks_of}
use Rattle.pointers.proofs.PointerLaws.{runs_none, runs-more}
use Rattle.image.specs.Stores.{put_map_bits}
use Rattle.delete_steps.proofs.StepLaws.{put-none, put-more, put-outside, points-into}
use Rattle.delete_steps.proofs.free_header.Goals as goal

pub loop-p-init : goal.loop-p-init
loop-p-init c =
    let a = c.args in
    sym (rw (runs_none (block a.image.now a.lbn.0) c.first_pointer-at.result) (put-none a.image.now a.map.0 a.q c.requires.0 1))

pub free_pointer-requires : goal.free_pointer-requires
free_pointer-requires c =
    let a = c.args in
    let h : List ℕ = block a.image.now a.lbn.0 in
    let first : ℕ = c.first_pointer-at.result in
    let same : block c.loop-p.image a.lbn.0 ≡ h = put-outside a.image.now a.map.0 a.q c.requires.0 _ 1 _ c.loop-p.invariant a.lbn.0 c.requires.1.outside in
    let at : first ≡ pointers_at h = c.first_pointer-at.ensures.0 ∙ ap pointers_at c.block-h.ensures in
    let number : c.pointer_number-number.result ≡ pointers h = c.pointer_number-number.ensures.0 ∙ ap pointers c.block-h.ensures in
    let p = c.requires in (
      omega (arith, p.0, c.loop-p.auto.image),
      rw same (points-into (4096 * a.q) h first c.loop-p.p p.1.fits p.1.ends at (omega (arith, number))),
    )

pub loop-p-preserved : goal.loop-p-preserved
loop-p-preserved c =
    let a = c.args in
    let h : List ℕ = block a.image.now a.lbn.0 in
    let first : ℕ = c.first_pointer-at.result in
    let same : block c.loop-p.image a.lbn.0 ≡ h = put-outside a.image.now a.map.0 a.q c.requires.0 _ 1 _ c.loop-p.invariant a.lbn.0 c.requires.1.outside in
    let more = ap (λ (x : List ℕ). runs h first c.loop-p.p ++ run x (first + 4 * c.loop-p.p)) same ∙ sym (runs-more h first c.loop-p.p) in
    put-more a.image.now a.map.0 a.q c.requires.0 _ _ _ 1 _ _ c.loop-p.invariant c.free_pointer.ensures more

pub returns : goal.returns
unfolding blocks_of
returns c =
    let a = c.args in
    let h : List ℕ = block a.image.now a.lbn.0 in
    let number : c.pointer_number-number.result ≡ pointers h = c.pointer_number-number.ensures.0 ∙ ap pointers c.block-h.ensures in
    let at : c.first_pointer-at.result ≡ pointers_at h = c.first_pointer-at.ensures.0 ∙ ap pointers_at c.block-h.ensures in
    let e : c.loop-p.p ≡ pointers h = omega (arith, number) in
    c.loop-p.invariant ∙ ap (λ (js : List ℕ). put_map_bits a.image.now a.map.0 a.q js 1) (ap₂ (runs h) at e)
