use mathlib.Core.Path.{◌≡◌}
use mathlib.Core.Bool.{false}
use Prim.Native.Nat.{◌≤◌}
use Rattle.volume.specs.Volume.{index_ends}
use Rattle.index_file.proofs.WalkLaws.{Along}
use Rattle.index_file.proofs.walk.Given as goal

abbrev pub invariant-loop-k : goal.invariant-loop-k
invariant-loop-k l = (l.k ≤ 255 → Along l.image l.places l.k l.at.0) × (l.k ≡ 256 → index_ends l.image ≡ false)
