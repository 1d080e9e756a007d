-- By the law of lists of calls.
use Rattle.history.proofs.ListLaws.{demand3}
use Rattle.history.proofs.every_list_keeps_the_volume.Goals as goal

pub returns : goal.returns
returns c = demand3
