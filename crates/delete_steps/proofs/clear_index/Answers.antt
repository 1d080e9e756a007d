-- After each turn the bits of the numbers so far are clear.
use mathlib.Core.Path.{sym}
use lib.ListN.{take}
use Rattle.std.proofs.lemmas.List.{take_all}
use Rattle.delete_steps.proofs.StepLaws.{put-none, put-more, index_bits-none, index_bits-more}
use Rattle.delete_steps.proofs.clear_index.Goals as goal

pub loop-n-init : goal.loop-n-init
loop-n-init c =
    let a = c.args in
    sym (rw (index_bits-none (take a.count a.numbers)) (put-none a.image.now a.map.0 a.q c.requires.0 0))

pub loop-n-preserved : goal.loop-n-preserved
loop-n-preserved c =
    let a = c.args in
    put-more a.image.now a.map.0 a.q c.requires.0 _ _ _ 0 _ _ c.loop-n.invariant c.put_map_bit.ensures
    (index_bits-more (take a.count a.numbers) c.loop-n.n-index c.loop-n-test.true)

pub returns : goal.returns
returns c =
    let e = take_all c.loop-n.n-index (take c.args.count c.args.numbers) c.loop-n-test.false in
    rw e at c.loop-n.invariant
