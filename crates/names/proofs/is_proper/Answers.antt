-- A name is proper by the lengths of its parts and its version.
use Rattle.names.proofs.ProperLaws.{proper-parts}
use Rattle.names.proofs.is_proper.Goals as goal

pub returns : goal.returns
returns c = cc (proper-parts c.args.n)
