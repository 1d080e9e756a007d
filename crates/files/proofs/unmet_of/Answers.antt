-- The slot that was found is that of a number in use, and the header in it is tested.
use mathlib.Core.Path.{sym, ◌∙◌}
use Rattle.volume.specs.Volume.{fault_of}
use Rattle.volume.proofs.VolumeLaws.{says}
use Rattle.chains.proofs.NumberLaws.{number-length}
use Rattle.chains.proofs.LinkLaws.{slot-found}
use Rattle.files.specs.Files.{unmet_of}
use Rattle.files.proofs.FileLaws.{number-read}
use Rattle.files.proofs.unmet_of.Goals as goal

pub fault-requires : goal.fault-requires
fault-requires c =
    let a = c.args in
    let r = number-read a.image.now a.n.0 c.in-Some.lbn c.block.result.now (sym c.slot_in_use.ensures ∙ c.in-Some.is) c.block.ensures in
    rw r.1 (number-length a.image.now a.n.0 r.0 c.requires.0)

pub returns-in-Some : goal.returns-in-Some
unfolding unmet_of fault_of
returns-in-Some c =
    let a = c.args in
    let r = number-read a.image.now a.n.0 c.in-Some.lbn c.block.result.now (sym c.slot_in_use.ensures ∙ c.in-Some.is) c.block.ensures in
    rw (r.0, ← (says a.image.now a.v c.requires.1).blocks, ← r.1) c.fault.ensures

pub returns-in-None : goal.returns-in-None
unfolding unmet_of
returns-in-None c =
    let none = slot-found c.args.image.now c.args.n.0 _ (sym c.slot_in_use.ensures ∙ c.in-None.is) in
    rw none
