-- The runs of the pointers are the blocks that the header covers.
use mathlib.Core.Path.{◌≡◌, refl, sym, ap, ◌∙◌}
use mathlib.Core.List.{List}
use Prim.Native.Nat.{ℕ, ◌+◌, ◌*◌, ◌-◌, ◌≤◌, ◌<◌}
use native.Mathlib.Omega.{arith}
use lib.ListN.{length}
use Rattle.lists.specs.Lists.{numbers_from}
use Rattle.lists.proofs.NumbersLaws.{numbers_from-length}
use Rattle.pointers.specs.Pointers.{pointer_lbn, pointer_count, pointers_at, pointers, runs, blocks_of}
use Rattle.pointers.proofs.PointerLaws.{runs_none, runs-length}
use Rattle.records.specs.declared.Wanted.{Wanted}
use Rattle.directory.specs.Search.{search_in}
use Rattle.directory.proofs.SearchLaws.{Turn, pointer-part, pointer-inside, search-turn, search-none, search-range}
use Rattle.directory.proofs.search_header.Goals as goal

all-runs : (h : List ℕ) (first number : ℕ) → first ≡ pointers_at h → number ≡ pointers h → runs h first number ≡ blocks_of h
unfolding blocks_of
all-runs h first number a b = rw (a, b)

-- What the search of a pointer's run comes to.
turn : (image h : List ℕ) (first number p : ℕ) (w : Wanted) (place to start lbn count r : ℕ) → p < number → start ≡ 32 * length (runs h first p) → start ≤ place
    → lbn ≡ pointer_lbn h (first + 4 * p) → count ≡ pointer_count h (first + 4 * p) → r ≡ search_in image (numbers_from lbn count) w (place - start) (to - start)
    → Turn image (runs h first number) w place to start count r
turn image h first number p w place to start lbn count r l begins reached el ec found =
    search-turn _ _ _ _ (pointer-part h first p number l) _ _ _ _ _ begins reached (rw (el, ec) at found) _ (numbers_from-length (pointer_lbn h (first + 4 * p)) _ ∙ sym ec)

pub loop-p-init : goal.loop-p-init
loop-p-init c =
    record { begins = omega (arith, ap length (runs_none c.args.h.now c.first_pointer-first.result)); reached = omega arith; onward = omega arith; inside = omega arith; same = refl }

pub search_run-r-requires : goal.search_run-r-requires
search_run-r-requires c =
    let a = c.args in
    let inside = pointer-inside a.image.now a.h.now c.first_pointer-first.result c.loop-p.p c.requires.1 c.first_pointer-first.ensures.0 (omega arith) in
    (omega (arith, inside), omega arith, omega arith)

pub returns-then-r-count : goal.returns-then-r-count
returns-then-r-count c =
    let a = c.args in
    let l = c.loop-p in
    let t = turn a.image.now a.h.now c.first_pointer-first.result c.pointer_number-number.result l.p a.w l.place a.to l.start _ _ _ (omega arith) l.invariant.begins l.invariant.reached c.pointer_lbn-lbn.ensures.0 c.pointer_count-count.ensures.0 c.search_run-r.ensures.0 in
    search-range _ _ _ _ _ (omega arith) _
    (rw (← all-runs a.h.now _ _ c.first_pointer-first.ensures.0 c.pointer_number-number.ensures.0) (sym (l.invariant.same ∙ t.here (omega arith))))

pub loop-p-preserved : goal.loop-p-preserved
loop-p-preserved c =
    let a = c.args in
    let l = c.loop-p in
    let t = turn a.image.now a.h.now c.first_pointer-first.result c.pointer_number-number.result l.p a.w l.place a.to l.start _ _ _ (omega arith) l.invariant.begins l.invariant.reached c.pointer_lbn-lbn.ensures.0 c.pointer_count-count.ensures.0 c.search_run-r.ensures.0 in
    record {
      begins = omega (arith, runs-length a.h.now c.first_pointer-first.result l.p);
      reached = omega arith;
      onward = omega arith;
      inside = omega arith;
      same = l.invariant.same ∙ t.on (omega arith);
    }

pub returns : goal.returns
returns c =
    let a = c.args in
    let e : c.loop-p.p ≡ c.pointer_number-number.result = omega arith in
    let begins = rw e at c.loop-p.invariant.begins in
    let none = search-none a.image.now (runs a.h.now c.first_pointer-first.result c.pointer_number-number.result) a.w c.loop-p.place a.to (omega (arith, begins)) in
    search-range _ _ _ _ _ (omega arith) _
    (rw (← all-runs a.h.now _ _ c.first_pointer-first.ensures.0 c.pointer_number-number.ensures.0) (sym (c.loop-p.invariant.same ∙ none)))
