-- By the law of lists of calls.
use Rattle.history.proofs.StepLaws.{refused-keeps}
use Rattle.history.proofs.refused_calls_change_nothing.Goals as goal

pub returns : goal.returns
returns c = refused-keeps
