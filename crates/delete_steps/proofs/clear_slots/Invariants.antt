use mathlib.Core.Path.{◌≡◌}
use lib.ListN.{take}
use Rattle.update.specs.Delete.{clear_slots}
use Rattle.delete_steps.proofs.clear_slots.Given as goal

abbrev pub invariant-loop-slot : goal.invariant-loop-slot
invariant-loop-slot l = l.image ≡ clear_slots l.initial.image (take l.slot-index l.slot-items)
