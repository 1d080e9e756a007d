-- Shown in proofs/RoundTripLaws.antt.
use Rattle.round_trip.proofs.RoundTripLaws.{round_trip}
use Rattle.round_trip.proofs.conversions_undo_each_other.Goals as goal

pub returns : goal.returns
returns c = round_trip
