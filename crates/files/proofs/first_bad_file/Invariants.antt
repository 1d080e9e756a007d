-- The loop is at a number while none of those below it offends and its run of slots stands there; while single holds, each header in use below it is
-- single.
use mathlib.Core.Path.{◌≡◌}
use mathlib.Core.Bool.{true}
use Prim.Native.Nat.{◌+◌, ◌-◌}
use Rattle.lists.specs.First.{first}
use Rattle.slots.specs.Slots.{Stands}
use Rattle.files.specs.Files.{bad_file, files_place}
use Rattle.files.specs.Single.{UnlinkedBelow}
use Rattle.files.proofs.first_bad_file.Given as goal

abbrev pub invariant-loop-number : goal.invariant-loop-number
invariant-loop-number l = record {
  stands : Stands l.image l.number l.run;
  place : files_place l.image ≡ first (bad_file l.image) l.number (l.v.fmax + 1 - l.number);
  singles : l.single ≡ true → UnlinkedBelow l.image l.number;
}
