-- What the volume is known to be, as numbers.
use Rattle.volume.proofs.VolumeLaws.{says, opens, opens-mapped}
use Rattle.volume.proofs.is_in_use.Goals as goal

pub is_marked-requires : goal.is_marked-requires
is_marked-requires c =
    let v = says _ _ c.requires.1 in
    (v.fmax, v.iblb, v.ibsz, opens-mapped (opens _ c.requires.0))
