-- Each turn is at a header of the chain, and each header's segment number is one higher than that before.
use mathlib.Core.Path.{◌≡◌, sym, ◌∙◌}
use native.Mathlib.Omega.{arith}
use Rattle.image.specs.Words.{Bytes}
use Rattle.chains.specs.Chains.{NextHeader}
use Rattle.chains.proofs.LinkLaws.{LeadsTo, link-leads, leads-next}
use Rattle.chains.proofs.SizeLaws.{file-most}
use Rattle.chains.proofs.ChainLaws.{walk_begins, walk_same, walk_inside, walk-fits, walk-next, walk_counts, walk_breaks}
use Rattle.chains.proofs.chain_blocks.Goals as goal

pub loop-h-init : goal.loop-h-init
loop-h-init c = rw c.block-h.ensures (walk_begins _ _ _ c.requires.1 c.requires.2)

pub block_count-count-requires : goal.block_count-count-requires
block_count-count-requires c = walk-fits _ _ _ _ c.loop-h.invariant c.requires.0.0

pub overflow_add-count : goal.overflow_add-count
overflow_add-count c =
    let bytes : Bytes c.args.image.now = record { each = λ i. omega (arith, c.type_inv.image i) } in
    omega (arith, walk_inside _ _ _ _ c.loop-h.invariant, file-most _ bytes c.args.n.0)

pub returns-then-m_efnu-eq0 : goal.returns-then-m_efnu-eq0
returns-then-m_efnu-eq0 c = walk_counts _ _ _ _ _ c.loop-h.invariant (omega arith) (omega arith)

pub returns-in-End : goal.returns-in-End
returns-in-End c = walk_counts _ _ _ _ _ c.loop-h.invariant (link-leads _ _ _ (sym c.follow.ensures ∙ c.in-End.is)) (omega arith)

pub loop-h-smaller : goal.loop-h-smaller
loop-h-smaller c =
    let bytes : Bytes c.args.image.now = record { each = λ i. omega (arith, c.type_inv.image i) } in
    let leads : LeadsTo c.args.image.now c.loop-h.h.now c.in-To.next.0 = link-leads _ _ _ (sym c.follow.ensures ∙ c.in-To.is) in
    let next : NextHeader c.args.image.now c.loop-h.h.now c.block-h-in-To.result.now = rw c.block-h-in-To.ensures (leads-next _ _ _ bytes leads) in
    omega (arith, next.higher, next.low)

pub loop-h-preserved : goal.loop-h-preserved
loop-h-preserved c =
    let bytes : Bytes c.args.image.now = record { each = λ i. omega (arith, c.type_inv.image i) } in
    let leads : LeadsTo c.args.image.now c.loop-h.h.now c.in-To.next.0 = link-leads _ _ _ (sym c.follow.ensures ∙ c.in-To.is) in
    let next : NextHeader c.args.image.now c.loop-h.h.now c.block-h-in-To.result.now = rw c.block-h-in-To.ensures (leads-next _ _ _ bytes leads) in
    walk_same _ _ _ _ _ (walk-next _ _ _ _ c.loop-h.invariant _ next) (omega arith)

pub returns-in-Bad : goal.returns-in-Bad
returns-in-Bad c = walk_breaks _ _ _ _ c.loop-h.invariant (link-leads _ _ _ (sym c.follow.ensures ∙ c.in-Bad.is))
