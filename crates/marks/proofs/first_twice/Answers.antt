-- Where the highest mark is below 2, none says "twice".
use Rattle.std.proofs.Common.{arith}
use Rattle.marks.proofs.MarkLaws.{twice-none}
use Rattle.marks.proofs.first_twice.Goals as goal

pub returns-then-highest-lt2 : goal.returns-then-highest-lt2
returns-then-highest-lt2 c = twice-none _ _ (λ j h. omega (arith, c.highest.ensures j h))
