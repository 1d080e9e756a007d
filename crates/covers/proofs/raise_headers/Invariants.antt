use Rattle.std.proofs.Common.{◌≡◌, ◌-◌}
use Rattle.pointers.specs.Pointers.{blocks_of}
use Rattle.marks.specs.Marks.{raised_by}
use Rattle.slots.specs.Slots.{Stands, gathered}
use Rattle.covers.proofs.raise_headers.Given as goal

abbrev pub invariant-loop-number : goal.invariant-loop-number
invariant-loop-number l = (l.area ≡ raised_by l.initial.area (gathered l.image blocks_of (l.number - 1))) × Stands l.image l.number l.run
