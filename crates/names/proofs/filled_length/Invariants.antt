use mathlib.Core.Path.{◌≡◌}
use Prim.Native.Nat.{◌+◌}
use lib.ListN.{length, drop}
use Rattle.names.specs.Names.{filled, kept}
use Rattle.names.proofs.filled_length.Given as goal

abbrev pub invariant-loop-i : goal.invariant-loop-i
invariant-loop-i l = (filled l.cs ≡ filled (drop l.i l.cs)) × (length (kept l.cs) ≡ l.i + length (kept (drop l.i l.cs)))
