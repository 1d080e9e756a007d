-- The last member's slot is the last header's.
use Rattle.chains.proofs.MemberLaws.{lists-last}
use Rattle.extend_plan.proofs.last_slot.Goals as goal

pub returns : goal.returns
returns c = lists-last c.args.image.now c.args.n.0 _ c.members_of-chain.ensures
