use Prim.Native.Nat.{◌-◌}
use Rattle.chains.proofs.MemberLaws.{Gathers}
use Rattle.chains.proofs.members_of.Given as goal

abbrev pub invariant-loop-v : goal.invariant-loop-v
invariant-loop-v l = Gathers l.image l.fn.n.0 l.numbers l.slots l.number.0 l.at.0 l.count

abbrev pub decreases-loop-v : goal.decreases-loop-v
decreases-loop-v l = 256 - l.count
