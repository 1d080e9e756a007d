-- After each turn the blocks of the headers so far are free. The headers lie outside the map, so each turn reads them as they were.
use mathlib.Core.Path.{◌≡◌, sym, ap, ◌∙◌}
use mathlib.Core.List.{List, ◌++◌}
use Prim.Native.Nat.{ℕ, ◌<◌}
use native.Mathlib.Omega.{arith}
use lib.ListN.{get_or, take, length-take}
use lib.Seq.{get_or-take}
use Rattle.std.proofs.lemmas.List.{take_all}
use Rattle.image.specs.Blocks.{block}
use Rattle.pointers.specs.Pointers.{flat, blocks_of}
use Rattle.delete_steps.specs.Steps.{Freeable}
use Rattle.delete_steps.proofs.StepLaws.{put-none, put-more, put-outside, freeable-same, flat-none, flat-more}
use Rattle.delete_steps.proofs.free_headers.Goals as goal

pub loop-slot-init : goal.loop-slot-init
loop-slot-init c =
    let a = c.args in
    sym (rw (flat-none (block a.image.now) (take a.count a.slots)) (put-none a.image.now a.map.0 a.q c.requires.0 1))

pub free_header-requires : goal.free_header-requires
free_header-requires c =
    let a = c.args in
    let p = c.requires in
    let i = c.loop-slot.slot-index in
    let lbn : ℕ = get_or (take a.count a.slots) i 0 in
    let low : i < a.count = omega (arith, length-take a.count a.slots) in
    let f : Freeable a.image.now a.map.0 a.q lbn = rw (get_or-take a.count a.slots i 0 low) (p.2.each i low) in
    let same : block c.loop-slot.image lbn ≡ block a.image.now lbn = put-outside a.image.now a.map.0 a.q p.0 _ 1 _ c.loop-slot.invariant lbn f.outside in
    (omega (arith, p.0, c.loop-slot.auto.image), freeable-same a.image.now c.loop-slot.image a.map.0 a.q lbn same f)

pub loop-slot-preserved : goal.loop-slot-preserved
loop-slot-preserved c =
    let a = c.args in
    let p = c.requires in
    let i = c.loop-slot.slot-index in
    let items : List ℕ = take a.count a.slots in
    let lbn : ℕ = get_or items i 0 in
    let low : i < a.count = omega (arith, length-take a.count a.slots) in
    let f : Freeable a.image.now a.map.0 a.q lbn = rw (get_or-take a.count a.slots i 0 low) (p.2.each i low) in
    let same : block c.loop-slot.image lbn ≡ block a.image.now lbn = put-outside a.image.now a.map.0 a.q p.0 _ 1 _ c.loop-slot.invariant lbn f.outside in
    let more = ap (λ (x : List ℕ). flat (block a.image.now) (take i items) ++ blocks_of x) same ∙ flat-more (block a.image.now) items i c.loop-slot-test.true in
    put-more a.image.now a.map.0 a.q p.0 _ _ _ 1 _ _ c.loop-slot.invariant c.free_header.ensures more

pub returns : goal.returns
returns c =
    let e = take_all c.loop-slot.slot-index (take c.args.count c.args.slots) c.loop-slot-test.false in
    rw e at c.loop-slot.invariant
