use mathlib.Core.Path.{◌≡◌}
use mathlib.Core.Bool.{true}
use Prim.Native.Nat.{◌^◌, ◌<◌}
use Rattle.parse.specs.Parse.{value_to, digits_to}
use Rattle.parse.proofs.number.Given as goal

abbrev pub invariant-loop-x : goal.invariant-loop-x
invariant-loop-x l = (l.v ≡ value_to l.d l.x-index) × (digits_to l.d l.x-index ≡ true) × (l.v < 10 ^ l.x-index)
