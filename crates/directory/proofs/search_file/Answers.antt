-- The headers of the chain cover the blocks of the file, each a part of them.
use Rattle.std.specs.Prelude.{Ok}
use mathlib.Core.Path.{◌≡◌, refl, sym, ◌∙◌}
use mathlib.Core.List.{List}
use Prim.Native.Nat.{ℕ, ◌+◌, ◌*◌, ◌-◌, ◌/◌, ◌≤◌}
use native.Mathlib.Omega.{arith}
use lib.ListN.{length}
use Rattle.pointers.specs.Pointers.{Fits, blocks_of}
use Rattle.records.specs.declared.Wanted.{Wanted}
use Rattle.volume.specs.Volume.{header}
use Rattle.volume.specs.Opening.{open_volume}
use Rattle.chains.specs.Chains.{file_blocks}
use Rattle.chains.proofs.NumberLaws.{number_fits}
use Rattle.chains.proofs.ChainLaws.{Walk, walk_start, walk-good, walk-next, walk-end-length}
use Rattle.directory.specs.Search.{search_in}
use Rattle.directory.proofs.SearchLaws.{Turn, walk-part, walk-pointers, search-turn, search-none, search-range}
use Rattle.directory.proofs.search_file.Goals as goal

fits : (image : List ℕ) (n : ℕ) (h : List ℕ) (d : ℕ) → open_volume image ≡ Ok tt → Walk image n h d → Fits h
fits image n h d o w = rw w.is at (number_fits image w.number w.used o w.whole)

-- What the search of a header's blocks comes to.
turn : (image : List ℕ) (n : ℕ) (h : List ℕ) (w : Wanted) (place to start count r : ℕ) → Walk image n h (start / 32) → start ≡ 32 * (start / 32) → start ≤ place
    → count ≡ length (blocks_of h) → r ≡ search_in image (blocks_of h) w (place - start) (to - start) → Turn image (file_blocks image n) w place to start count r
turn image n h w place to start count r walk begins reached e found =
    search-turn _ _ _ _ (walk-part image n h (start / 32) walk) _ _ _ _ _ begins reached found _ (sym e)

pub loop-h-init : goal.loop-h-init
unfolding header
loop-h-init c = record {
  walk = rw (c.block-h.ensures, c.requires.2) (walk_start c.args.image.now c.args.n.0 c.requires.0.1);
  begins = refl;
  reached = omega arith;
  onward = omega arith;
  inside = omega arith;
  same = refl;
}

pub block_count-count-requires : goal.block_count-count-requires
block_count-count-requires c = fits _ _ _ _ c.requires.0.0.0 c.loop-h.invariant.walk

pub search_header-r-requires : goal.search_header-r-requires
search_header-r-requires c =
    let l = c.loop-h in
    (fits _ _ _ _ c.requires.0.0.0 l.invariant.walk, walk-pointers c.args.image.now c.args.n.0 l.h.now (l.start / 32) l.invariant.walk, omega arith)

pub returns-then-r-count : goal.returns-then-r-count
returns-then-r-count c =
    let a = c.args in
    let l = c.loop-h in
    let t = turn a.image.now a.n.0 l.h.now a.w l.place a.to l.start _ _ l.invariant.walk l.invariant.begins l.invariant.reached c.block_count-count.ensures.0 c.search_header-r.ensures.0 in
    search-range _ _ _ _ _ (omega arith) _ (sym (l.invariant.same ∙ t.here (omega arith)))

pub returns-then-next-eq0 : goal.returns-then-next-eq0
returns-then-next-eq0 c =
    let a = c.args in
    let l = c.loop-h in
    let t = turn a.image.now a.n.0 l.h.now a.w l.place a.to l.start _ _ l.invariant.walk l.invariant.begins l.invariant.reached c.block_count-count.ensures.0 c.search_header-r.ensures.0 in
    let last = walk-end-length a.image.now a.n.0 l.h.now (l.start / 32) l.invariant.walk (omega (arith, c.from.ensures, c.m_efnu.ensures)) in
    let none = search-none a.image.now (file_blocks a.image.now a.n.0) a.w (l.start + c.search_header-r.result) a.to (omega (arith, last, c.block_count-count.ensures.0)) in
    search-range _ _ _ _ _ (omega arith) _ (sym (l.invariant.same ∙ t.on (omega arith) ∙ none))

pub next_header-h-requires : goal.next_header-h-requires
next_header-h-requires c =
    let l = c.loop-h in
    (c.requires.0.0, omega (arith, c.from.ensures, c.m_efnu.ensures), omega (arith, c.from.ensures, c.m_efnu.ensures), walk-good c.args.image.now c.args.n.0 l.h.now (l.start / 32) l.invariant.walk c.requires.0.2)

pub loop-h-preserved : goal.loop-h-preserved
loop-h-preserved c =
    let a = c.args in
    let l = c.loop-h in
    let t = turn a.image.now a.n.0 l.h.now a.w l.place a.to l.start _ _ l.invariant.walk l.invariant.begins l.invariant.reached c.block_count-count.ensures.0 c.search_header-r.ensures.0 in
    let e : (l.start + 32 * c.block_count-count.result) / 32 ≡ l.start / 32 + length (blocks_of l.h.now) = omega (arith, c.block_count-count.ensures.0) in
    record {
      walk = rw e (walk-next a.image.now a.n.0 l.h.now (l.start / 32) l.invariant.walk _ c.next_header-h.ensures);
      begins = omega arith;
      reached = omega arith;
      onward = omega arith;
      inside = omega arith;
      same = l.invariant.same ∙ t.on (omega arith);
    }
