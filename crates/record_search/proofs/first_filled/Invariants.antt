use mathlib.Core.Path.{◌≡◌}
use Prim.Native.Nat.{◌-◌}
use Rattle.lists.specs.First.{first}
use Rattle.records.specs.Records.{wanted_in}
use Rattle.records.specs.declared.Wanted.TheVariants.{Any}
use Rattle.record_search.proofs.first_filled.Given as goal

abbrev pub invariant-loop-i : goal.invariant-loop-i
invariant-loop-i l = first (wanted_in l.b Any) l.from (l.to - l.from) ≡ first (wanted_in l.b Any) l.i (l.to - l.i)
