-- Each turn is at a header of the chain, whose records begin at start; no record before the place is wanted.
use mathlib.Core.Path.{◌≡◌}
use Prim.Native.Nat.{◌*◌, ◌-◌, ◌/◌, ◌≤◌}
use Rattle.header.specs.Fields.{segment}
use Rattle.chains.specs.Chains.{file_blocks}
use Rattle.chains.proofs.ChainLaws.{Walk}
use Rattle.directory.specs.Search.{search_in}
use Rattle.directory.proofs.search_file.Given as goal

abbrev pub invariant-loop-h : goal.invariant-loop-h
invariant-loop-h l = record {
  walk : Walk l.image l.fn.n.0 l.h (l.start / 32);
  begins : l.start ≡ 32 * (l.start / 32);
  reached : l.start ≤ l.place;
  onward : l.from ≤ l.place;
  inside : l.place ≤ l.to;
  same : search_in l.image (file_blocks l.image l.fn.n.0) l.w l.from l.to ≡ search_in l.image (file_blocks l.image l.fn.n.0) l.w l.place l.to;
}

abbrev pub decreases-loop-h : goal.decreases-loop-h
decreases-loop-h l = 255 - segment l.h
