-- Each turn is at a header of the index file, with the places of those before it.
use native.Mathlib.Omega.{arith}
use mathlib.Core.Path.{◌≡◌, sym, ap, ◌∙◌}
use Prim.Native.Nat.{◌-◌}
use Rattle.image.specs.Blocks.{block}
use Rattle.image.specs.Stores.{zeros}
use Rattle.header.specs.Fields.{m_efnu}
use Rattle.home.specs.Home.{blocks}
use Rattle.volume.specs.Volume.{index_header}
use Rattle.volume.proofs.OpeningLaws.{sized-is}
use Rattle.volume.proofs.VolumeLaws.{heads-gives, laid-room, laid-mapped}
use Rattle.index_file.proofs.WalkLaws.{along-start, along-length, along-fit, along-full, along-end, walk-unused, walk-past, walk-found, next-long, walk-off, walk-on}
use Rattle.index_file.proofs.walk.Goals as goal

pub overflow_add-first : goal.overflow_add-first
overflow_add-first c = omega (arith, laid-room c.args.image.now c.args.v c.requires.3 c.requires.1 c.requires.2)

pub loop-k-init : goal.loop-k-init
unfolding zeros index_header
loop-k-init c =
    let image = c.args.image.now in
    let l = c.requires.3 in
    let room = laid-room image c.args.v l c.requires.1 c.requires.2 in (
      λ low. rw c.requires.0
          (along-start image _ (omega (arith, l.iblb, l.ibsz))
          (record {
            number = 1;
            whole = rw (l.iblb, l.ibsz) (heads-gives (blocks image) 1 (index_header image) c.requires.4).whole;
            low = omega (arith, room);
          })),
      λ none. absurd (omega arith),
    )

pub returns-then-n-eq0 : goal.returns-then-n-eq0
returns-then-n-eq0 c =
    let n : c.from.result ≡ m_efnu (block c.args.image.now c.loop-k.at.0) = omega (arith, ap m_efnu c.block-h.ensures) in
    along-end c.args.image.now c.loop-k.places c.loop-k.k c.loop-k.at.0 (c.loop-k.invariant.0 (omega arith)) (omega arith)

pub returns-then-k-eq255 : goal.returns-then-k-eq255
returns-then-k-eq255 c =
    let n : c.from.result ≡ m_efnu (block c.args.image.now c.loop-k.at.0) = omega (arith, ap m_efnu c.block-h.ensures) in
    along-full c.args.image.now c.loop-k.places c.loop-k.k c.loop-k.at.0 (c.loop-k.invariant.0 (omega arith)) (λ z. c.if-n-eq0.false (n ∙ z)) (omega arith)

pub is_marked-used-requires : goal.is_marked-used-requires
is_marked-used-requires c =
    let l = c.requires.3 in
    (l.fmax, l.iblb, l.ibsz, laid-mapped c.args.image.now c.args.v l c.requires.1 c.requires.2)

pub returns-then-not-used : goal.returns-then-not-used
returns-then-not-used c =
    let n : c.from.result ≡ m_efnu (block c.args.image.now c.loop-k.at.0) = omega (arith, ap m_efnu c.block-h.ensures) in
    let a = c.loop-k.invariant.0 (omega arith) in
    walk-unused _ _ _ _ c.args.v.ibsz c.from.result a (sized-is c.args.image.now c.requires.1).0 c.requires.3.ibsz n c.if-n-eq0.false (sym c.is_marked-used.ensures ∙ c.if-not-used.true)

pub slot_vbn-requires : goal.slot_vbn-requires
slot_vbn-requires c = omega (arith, laid-room c.args.image.now c.args.v c.requires.3 c.requires.1 c.requires.2)

pub place_among-requires : goal.place_among-requires
place_among-requires c =
    let image = c.args.image.now in
    let a = c.loop-k.invariant.0 (omega arith) in (
      along-length image c.loop-k.places c.loop-k.k c.loop-k.at.0 a,
      omega arith,
      along-fit image c.loop-k.places c.loop-k.k c.loop-k.at.0 a (sized-is image c.requires.1).0,
      omega (arith, c.slot_vbn.ensures),
    )

pub returns-in_err-next : goal.returns-in_err-next
returns-in_err-next c =
    let n : c.from.result ≡ m_efnu (block c.args.image.now c.loop-k.at.0) = omega (arith, ap m_efnu c.block-h.ensures) in
    let a = c.loop-k.invariant.0 (omega arith) in
    let image = c.args.image.now in
    rw c.from_residual.ensures
    (walk-past _ _ _ _ c.args.v.ibsz c.from.result a (sized-is image c.requires.1).0 c.requires.3.ibsz n c.if-n-eq0.false
    c.place_among.result (c.slot_vbn.result.0 - 1) (omega (arith, c.slot_vbn.ensures)) c.place_among.ensures c.in_err-next.ensures.value)

pub is_next-requires : goal.is_next-requires
is_next-requires c =
    let n : c.from.result ≡ m_efnu (block c.args.image.now c.loop-k.at.0) = omega (arith, ap m_efnu c.block-h.ensures) in
    let a = c.loop-k.invariant.0 (omega arith) in
    let image = c.args.image.now in
    let size = (sized-is image c.requires.1).0 in
    let found = walk-found _ _ _ _ c.args.v.ibsz c.from.result a size c.requires.3.ibsz n c.if-n-eq0.false
    c.place_among.result (c.slot_vbn.result.0 - 1) (omega (arith, c.slot_vbn.ensures)) c.place_among.ensures c.in_ok-next.next c.in_ok-next.ensures.value in
    (rw c.block.ensures (next-long _ _ _ _ c.args.v.ibsz c.from.result a size c.requires.3.ibsz n c.if-n-eq0.false c.in_ok-next.next found), omega arith)

pub returns-then-not-is_next : goal.returns-then-not-is_next
returns-then-not-is_next c =
    let n : c.from.result ≡ m_efnu (block c.args.image.now c.loop-k.at.0) = omega (arith, ap m_efnu c.block-h.ensures) in
    let a = c.loop-k.invariant.0 (omega arith) in
    let image = c.args.image.now in
    let size = (sized-is image c.requires.1).0 in
    let found = walk-found _ _ _ _ c.args.v.ibsz c.from.result a size c.requires.3.ibsz n c.if-n-eq0.false
    c.place_among.result (c.slot_vbn.result.0 - 1) (omega (arith, c.slot_vbn.ensures)) c.place_among.ensures c.in_ok-next.next c.in_ok-next.ensures.value in
    let tested = rw (c.block-h.ensures, c.block.ensures, c.requires.3.blocks) at c.is_next.ensures in
    walk-off _ _ _ _ c.args.v.ibsz c.from.result a size c.requires.3.ibsz n c.if-n-eq0.false c.in_ok-next.next found
    (sym c.is_marked-used.ensures ∙ c.if-not-used.false) (sym tested ∙ c.if-not-is_next.true)

pub loop-k-preserved : goal.loop-k-preserved
loop-k-preserved c =
    let n : c.from.result ≡ m_efnu (block c.args.image.now c.loop-k.at.0) = omega (arith, ap m_efnu c.block-h.ensures) in
    let a = c.loop-k.invariant.0 (omega arith) in
    let image = c.args.image.now in
    let size = (sized-is image c.requires.1).0 in
    let found = walk-found _ _ _ _ c.args.v.ibsz c.from.result a size c.requires.3.ibsz n c.if-n-eq0.false
    c.place_among.result (c.slot_vbn.result.0 - 1) (omega (arith, c.slot_vbn.ensures)) c.place_among.ensures c.in_ok-next.next c.in_ok-next.ensures.value in
    let tested = rw (c.block-h.ensures, c.block.ensures, c.requires.3.blocks) at c.is_next.ensures in
    walk-on _ _ _ _ c.args.v.ibsz c.from.result a size c.requires.3.ibsz n c.if-n-eq0.false c.in_ok-next.next found
    (sym c.is_marked-used.ensures ∙ c.if-not-used.false) (sym tested ∙ c.if-not-is_next.false)
