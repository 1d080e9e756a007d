-- The claim, from its laws: no block is covered twice, and no two chains meet.
use Rattle.sound.proofs.ApartLaws.{apart}
use Rattle.sound.proofs.blocks_are_apart.Goals as goal

pub returns : goal.returns
returns c = apart
