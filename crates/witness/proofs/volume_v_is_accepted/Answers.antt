-- Shown in proofs/AcceptedV.antt.
use Rattle.witness.proofs.AcceptedV.{accepted}
use Rattle.witness.proofs.volume_v_is_accepted.Goals as goal

pub returns : goal.returns
returns c = accepted
