-- Shown in proofs/Cases.antt.
use Rattle.worked_cases.proofs.Cases.{cases}
use Rattle.worked_cases.proofs.worked_cases.Goals as goal

pub returns : goal.returns
returns c = cases
