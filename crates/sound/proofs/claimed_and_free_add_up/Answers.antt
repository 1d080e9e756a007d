-- The claim, from its laws: of each block either the LBN is covered or the bit is set.
use Rattle.sound.proofs.CountLaws.{counts}
use Rattle.sound.proofs.claimed_and_free_add_up.Goals as goal

pub returns : goal.returns
returns c = counts
