-- No record before i is wanted.
use native.Mathlib.Omega.{arith}
use Rattle.std.proofs.lemmas.Grind.{common_steps}
use Rattle.lists.proofs.FirstLaws.{first-here, first_on, first-none}
use Rattle.record_search.proofs.first_filled.Goals as goal

pub returns-then-is_filled : goal.returns-then-is_filled
returns-then-is_filled c = grind (arith, common_steps, first-here)

pub loop-i-preserved : goal.loop-i-preserved
loop-i-preserved c = grind (arith, common_steps, first_on)

pub returns : goal.returns
returns c = grind (arith, common_steps, first-none)
