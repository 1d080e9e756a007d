use mathlib.Core.Path.{◌≡◌}
use Prim.Native.Nat.{◌+◌, ◌<◌}
use lib.ListN.{length, take, drop}
use Rattle.image.specs.Stores.{splice}
use Rattle.text.specs.Text.{decimal}
use Rattle.text.proofs.put_decimal.Given as goal

abbrev pub invariant-loop-i : goal.invariant-loop-i
invariant-loop-i l = (l.left < 100000) × (length l.text ≡ length l.initial.text) × (l.text ≡ splice l.initial.text (l.at + l.i) (drop l.i (decimal l.v))) × (0 < l.i → decimal l.left ≡ take l.i (decimal l.v))
