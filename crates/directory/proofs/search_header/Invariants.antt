-- No record before the place is wanted; each turn searches the run of a pointer, whose records begin at start.
use mathlib.Core.Path.{◌≡◌}
use Prim.Native.Nat.{◌*◌, ◌≤◌}
use lib.ListN.{length}
use Rattle.pointers.specs.Pointers.{runs}
use Rattle.directory.specs.Search.{search_in}
use Rattle.directory.proofs.search_header.Given as goal

abbrev pub invariant-loop-p : goal.invariant-loop-p
invariant-loop-p l = record {
  begins : l.start ≡ 32 * length (runs l.h l.first l.p);
  reached : l.start ≤ l.place;
  onward : l.from ≤ l.place;
  inside : l.place ≤ l.to;
  same : search_in l.image (runs l.h l.first l.number) l.w l.from l.to ≡ search_in l.image (runs l.h l.first l.number) l.w l.place l.to;
}
