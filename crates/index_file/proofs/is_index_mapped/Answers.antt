-- The first blocks of the pointers so far, up to the last that is asked for, are the index file's.
use native.Mathlib.Omega.{arith}
use mathlib.Core.Path.{◌≡◌, sym, ap, ap₂, ◌∙◌}
use mathlib.Core.Bool.{and-false}
use mathlib.Core.List.{List}
use Prim.Native.Nat.{ℕ, ◌+◌, ◌*◌, ◌-◌, ◌≤◌, ◌<◌, min}
use lib.ListN.{length, get_or}
use borrow.Author.Tests.{eq-eqb}
use Rattle.lists.proofs.BelowLaws.{below_none}
use Rattle.pointers.specs.Pointers.{pointer_lbn, pointer_count, pointers_at, pointers, runs, blocks_of}
use Rattle.pointers.proofs.PointerLaws.{runs_none, runs-length, runs-le, runs-at}
use Rattle.volume.specs.Opening.{index_mapped}
use Rattle.volume.proofs.OpeningLaws.{index-more, index-off, index-end}
use Rattle.index_file.proofs.is_index_mapped.Goals as goal

-- What is asked for lies in a list, and so it does in a longer one.
enough : (short long most k : ℕ) → k ≡ min short most → k ≡ most → short ≤ long → k ≡ min long most
enough short long most k e f s = omega arith

-- Some blocks more, as far as what is asked for goes.
further : (short more most k c : ℕ) → k ≡ min short most → c ≡ min more (most - k) → k + c ≡ min (short + more) most
further short more most k c e f = omega arith

-- All pointers of a header, and the blocks of pointer p among those of all.
module _ (h : List ℕ) (at number : ℕ) (e : at ≡ pointers_at h) (f : number ≡ pointers h) where
  all-runs : runs h at number ≡ blocks_of h
  unfolding blocks_of
  all-runs = ap₂ (runs h) e f

  row : (p done c lbn : ℕ) → p < number → done ≡ length (runs h at p) → c ≤ pointer_count h (at + 4 * p) → lbn ≡ pointer_lbn h (at + 4 * p) → (i : ℕ) → i < c → get_or (blocks_of h) (done + i) 0 ≡ lbn + i
  row p done c lbn l d m is i s =
      rw (← all-runs, d) (runs-at h at p number i l (omega arith) ∙ omega arith)

  most : (p : ℕ) → p ≤ number → length (runs h at p) ≤ length (blocks_of h)
  most p l = rw (← all-runs) (runs-le h at p number l)

pub loop-p-init : goal.loop-p-init
loop-p-init c =
    (omega (arith, ap length (runs_none c.args.h.now c.first_pointer-at.result)), below_none _)

-- All blocks that are asked for lie in the pointers so far.
pub returns-then-done-m : goal.returns-then-done-m
returns-then-done-m c =
    let a = c.args in
    let h = a.h.now in
    let at = c.first_pointer-at in
    let number = c.pointer_number-number in
    sym (eq-eqb c.loop-p.done (a.m + 18) c.if-done-m.true)
    ∙ index-end a.home.0 a.iblb.0 a.m (blocks_of h) c.loop-p.done
    (enough _ _ _ _ c.loop-p.invariant.0 c.if-done-m.true (most h at.result number.result at.ensures.0 number.ensures.0 c.loop-p.p (omega arith)))
    c.loop-p.invariant.1

pub returns-then-not-is_index_run : goal.returns-then-not-is_index_run
unfolding index_mapped
returns-then-not-is_index_run c =
    let a = c.args in
    let h = a.h.now in
    let at = c.first_pointer-at in
    let number = c.pointer_number-number in
    let here = row h at.result number.result at.ensures.0 number.ensures.0 c.loop-p.p c.loop-p.done c.min-c.result c.pointer_lbn-lbn.result.0 (omega arith) (omega arith) (omega (arith, c.pointer_count.ensures)) c.pointer_lbn-lbn.ensures.0 in
    rw (index-off a.home.0 a.iblb.0 (blocks_of h) c.pointer_lbn-lbn.result.0 c.loop-p.done c.min-c.result here (a.m + 18) (omega arith) (sym c.is_index_run.ensures ∙ c.if-not-is_index_run.true), and-false)

pub loop-p-preserved : goal.loop-p-preserved
loop-p-preserved c =
    let a = c.args in
    let h = a.h.now in
    let at = c.first_pointer-at in
    let number = c.pointer_number-number in
    let here = row h at.result number.result at.ensures.0 number.ensures.0 c.loop-p.p c.loop-p.done c.min-c.result c.pointer_lbn-lbn.result.0 (omega arith) (omega arith) (omega (arith, c.pointer_count.ensures)) c.pointer_lbn-lbn.ensures.0 in (
      further (length (runs h at.result c.loop-p.p)) c.pointer_count.result (a.m + 18) c.loop-p.done c.min-c.result c.loop-p.invariant.0 c.min-c.ensures
          ∙ ap (λ (k : ℕ). min k (a.m + 18)) (omega (arith, runs-length h at.result c.loop-p.p, c.pointer_count.ensures.0)),
      index-more a.home.0 a.iblb.0 (blocks_of h) c.pointer_lbn-lbn.result.0 c.loop-p.done c.min-c.result here c.loop-p.invariant.1 (sym c.is_index_run.ensures ∙ c.if-not-is_index_run.false),
    )

pub returns : goal.returns
returns c =
    let a = c.args in
    let h = a.h.now in
    let at = c.first_pointer-at.result in
    let number = c.pointer_number-number in
    let end : c.loop-p.p ≡ number.result = omega arith in
    let e : length (blocks_of h) ≡ length (runs h at c.loop-p.p) = rw (end) (ap length (sym (all-runs h at number.result c.first_pointer-at.ensures.0 number.ensures.0))) in
    index-end a.home.0 a.iblb.0 a.m (blocks_of h) c.loop-p.done (omega arith) c.loop-p.invariant.1
