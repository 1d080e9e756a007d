-- A number's slot is a place in the index file, whose headers the volume record keeps.
use Rattle.std.proofs.Common.{sym, ap, arith, ◌∙◌}
use Rattle.std.specs.Result.{result_ok}
use Rattle.volume.specs.Volume.{index}
use Rattle.volume.proofs.VolumeLaws.{opens, says, segments-most, places-long, places-first, places-fit, slot-place, slot-none}
use Rattle.volume.proofs.slot_of.Goals as goal

pub returns-then-n-gt8323072 : goal.returns-then-n-gt8323072
returns-then-n-gt8323072 c =
    sym (slot-none c.args.image.now (record { each = λ i. omega (arith, c.type_inv.image i) }) c.args.n.0 (omega arith))

pub place_among-requires : goal.place_among-requires
place_among-requires c = (places-long _ _ _ c.requires, segments-most _ _ _ c.requires, places-fit _ _ _ c.requires, omega (arith, c.slot_vbn.ensures))

pub returns : goal.returns
unfolding index
returns c =
    let image = c.args.image.now in
    let v = says image c.args.v c.requires.1 in
    let place = rw (places-first image c.args.v c.args.places.now c.requires) at c.place_among.ensures in
    c.ok.ensures.value ∙ ap result_ok place ∙ slot-place image (opens image c.requires.0) c.args.n.0 _ (omega (arith, c.slot_vbn.ensures, v.ibsz))
