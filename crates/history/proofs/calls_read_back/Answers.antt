-- By the law of lists of calls.
use Rattle.history.proofs.ReadBackLaws.{reads-back}
use Rattle.history.proofs.calls_read_back.Goals as goal

pub returns : goal.returns
returns c = reads-back
