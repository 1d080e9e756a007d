-- The claim, from the rules of the verdict one by one.
use Rattle.sound.proofs.ExactLaws.{exact}
use Rattle.sound.proofs.accepts_exactly_the_sound.Goals as goal

pub returns : goal.returns
returns c = exact
