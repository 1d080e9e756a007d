-- By the law of lists of calls.
use Rattle.history.proofs.ListLaws.{bounded}
use Rattle.history.proofs.calls_write_what_the_rules_name.Goals as goal

pub returns : goal.returns
returns c = bounded
