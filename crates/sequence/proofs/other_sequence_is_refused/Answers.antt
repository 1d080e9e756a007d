-- The claim, from its laws.
use Rattle.sequence.proofs.SequenceLaws.{sequence-asked}
use Rattle.sequence.proofs.other_sequence_is_refused.Goals as goal

pub returns : goal.returns
returns c = sequence-asked
