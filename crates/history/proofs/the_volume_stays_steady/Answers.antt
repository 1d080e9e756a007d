-- By the law of lists of calls.
use Rattle.history.proofs.ListLaws.{steady}
use Rattle.history.proofs.the_volume_stays_steady.Goals as goal

pub returns : goal.returns
returns c = steady
