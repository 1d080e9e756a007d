-- Each turn is at a header of the chain, and carries the row on over that header's blocks.
use mathlib.Core.Path.{◌≡◌}
use native.Mathlib.Omega.{arith}
use Rattle.header.specs.Fields.{m_efnu}
use Rattle.chains.proofs.ChainLaws.{walk_begins, walk-fits, walk-good}
use Rattle.rows.proofs.RowLaws.{turn-start, turn_end, turn-next}
use Rattle.rows.proofs.row_of.Goals as goal

pub loop-h-init : goal.loop-h-init
loop-h-init c = rw c.block-h.ensures (turn-start _ _ _ _ (walk_begins _ _ _ c.requires.1 c.requires.3))

pub row_over-row-requires : goal.row_over-row-requires
row_over-row-requires c = walk-fits _ _ _ _ c.loop-h.invariant.walk c.requires.0.0

pub returns-then-next-eq0 : goal.returns-then-next-eq0
returns-then-next-eq0 c = turn_end _ _ _ _ _ c.loop-h.invariant _ c.row_over-row.ensures (omega arith)

pub next_header-h-requires : goal.next_header-h-requires
next_header-h-requires c =
    let e : c.from.result ≡ m_efnu c.loop-h.h.now = omega arith in
    (c.requires.0, e, omega arith, walk-good _ _ _ _ c.loop-h.invariant.walk c.requires.2)

pub loop-h-smaller : goal.loop-h-smaller
loop-h-smaller c = omega (arith, c.next_header-h.ensures.higher, c.next_header-h.ensures.low)

pub loop-h-preserved : goal.loop-h-preserved
loop-h-preserved c = turn-next _ _ _ _ _ c.loop-h.invariant _ c.row_over-row.ensures _ c.next_header-h.ensures
