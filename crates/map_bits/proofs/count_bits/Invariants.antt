use Rattle.std.proofs.Common.{◌≡◌, ◌-◌, ◌≤◌}
use Rattle.lists.specs.Counts.{how_many}
use Rattle.image.specs.Bits.{is_set}
use Rattle.map_bits.proofs.count_bits.Given as goal

abbrev pub invariant-loop-j : goal.invariant-loop-j
invariant-loop-j l = (l.total ≤ l.j - l.from) × (l.total ≡ how_many (is_set l.map) l.from (l.j - l.from))
