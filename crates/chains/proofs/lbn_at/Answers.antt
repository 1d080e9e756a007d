-- Each turn is at a header of the chain, and what is left of the place counts from that header's first block.
use mathlib.Core.Path.{◌≡◌, sym, ap, ◌∙◌}
use Prim.Native.Nat.{ℕ, ◌+◌, ◌-◌, ◌≤◌}
use native.Mathlib.Omega.{arith}
use lib.ListN.{get_or}
use Rattle.header.specs.Fields.{m_efnu}
use Rattle.chains.specs.Chains.{file_blocks}
use Rattle.chains.proofs.ChainLaws.{walk_begins, walk_same, walk_here, walk-fits, walk-good, walk_more, walk-next}
use Rattle.chains.proofs.lbn_at.Goals as goal

pub loop-left-init : goal.loop-left-init
loop-left-init c = (omega arith, rw c.block-h.ensures (walk_same _ _ _ _ _ (walk_begins _ _ _ c.requires.1 c.requires.4) (omega arith)))

pub block_count-count-requires : goal.block_count-count-requires
block_count-count-requires c = walk-fits _ _ _ _ c.loop-left.invariant.1 c.requires.0.0

pub lbn_in-requires : goal.lbn_in-requires
lbn_in-requires c = walk-fits _ _ _ _ c.loop-left.invariant.1 c.requires.0.0

pub returns-then-left-count : goal.returns-then-left-count
returns-then-left-count c =
    let a = c.args in
    let e : a.i - c.loop-left.left + c.loop-left.left ≡ a.i = omega (arith, c.loop-left.invariant.0) in
    c.lbn_in.ensures
    ∙ sym (walk_here _ _ _ _ c.loop-left.invariant.1 c.loop-left.left (omega (arith, c.block_count-count.ensures.0, c.if-left-count.true)))
    ∙ ap (λ (k : ℕ). get_or (file_blocks a.image.now a.n.0) k 0) e

pub next_header-h-requires : goal.next_header-h-requires
next_header-h-requires c =
    let some : m_efnu c.loop-left.h.now ≡ 0 → ⊥ =
    walk_more _ _ _ _ c.loop-left.invariant.1 (omega (arith, c.if-left-count.false, c.block_count-count.ensures.0, c.requires.3, c.loop-left.invariant.0)) in
    (c.requires.0, omega arith, some, walk-good _ _ _ _ c.loop-left.invariant.1 c.requires.2)

pub loop-left-smaller : goal.loop-left-smaller
loop-left-smaller c = omega (arith, c.next_header-h.ensures.higher, c.next_header-h.ensures.low)

pub loop-left-preserved : goal.loop-left-preserved
loop-left-preserved c =
    let p : c.block_count-count.result ≤ c.loop-left.left = omega (arith, c.if-left-count.false) in (
      omega (arith, c.loop-left.invariant.0),
      walk_same _ _ _ _ _ (walk-next _ _ _ _ c.loop-left.invariant.1 _ c.next_header-h.ensures) (omega (arith, p, c.loop-left.invariant.0, c.block_count-count.ensures.0)),
    )
