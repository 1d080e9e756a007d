use Rattle.std.proofs.Common.{◌≡◌, ◌*◌, ◌≤◌}
use Rattle.lists.specs.Counts.{how_many}
use Rattle.image.specs.Bits.{is_set}
use Rattle.map_bits.proofs.count_bytes.Given as goal

abbrev pub invariant-loop-i : goal.invariant-loop-i
invariant-loop-i l = (l.total ≤ 8 * l.i) × (l.total ≡ how_many (is_set l.map) 0 (8 * l.i))
