use Rattle.std.proofs.Common.{◌≡◌, ◌+◌, ◌-◌}
use Rattle.lists.specs.First.{first}
use Rattle.slots.specs.Slots.{Stands}
use Rattle.spare_number.specs.SpareNumber.{is_spare, spare_number}
use Rattle.spare_number.proofs.spare_number.Given as goal

abbrev pub invariant-loop-n : goal.invariant-loop-n
invariant-loop-n l = Stands l.image l.n l.run × (spare_number l.image ≡ first (is_spare l.image) l.n (l.fn.v.fmax + 1 - l.n))
