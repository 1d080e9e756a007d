-- After p turns the blocks of the first p pointers are raised.
use mathlib.Core.Path.{◌≡◌, sym, ap, ap₂, ◌∙◌}
use mathlib.Core.List.{List}
use Prim.Native.Nat.{ℕ, ◌+◌, ◌*◌}
use native.Mathlib.Omega.{arith}
use Rattle.lists.specs.Lists.{numbers_from}
use Rattle.pointers.specs.Pointers.{pointers, run, runs, blocks_of}
use Rattle.pointers.proofs.PointerLaws.{runs_none, runs-more}
use Rattle.marks.specs.Marks.{raised_by}
use Rattle.marks.proofs.MarkLaws.{raised_by-none, raised_by-append}
use Rattle.covers.proofs.raise_header.Goals as goal

pub loop-p-init : goal.loop-p-init
loop-p-init c = sym (ap (raised_by _) (runs_none _ _) ∙ raised_by-none _)

pub loop-p-preserved : goal.loop-p-preserved
unfolding run
loop-p-preserved c =
    let h : List ℕ = c.args.h.now in
    let area : List ℕ = c.args.area.now in
    let from = c.first_pointer-at.result in
    let p = c.loop-p.p in
    c.raise_run.ensures
    ∙ ap₂ raised_by c.loop-p.invariant (ap₂ numbers_from c.pointer_lbn-lbn.ensures.0 c.pointer_count-c.ensures.0)
    ∙ sym (raised_by-append area (runs h from p) (run h (from + 4 * p)))
    ∙ ap (raised_by area) (sym (runs-more h from p))

pub returns : goal.returns
unfolding blocks_of
returns c =
    let h : List ℕ = c.args.h.now in
    let e : c.loop-p.p ≡ pointers h = omega arith in
    c.loop-p.invariant ∙ ap (raised_by _) (ap₂ (runs h) c.first_pointer-at.ensures.0 e)
