-- After the numbers below n the marks count the links of their headers, and the run of slots stands at n.
use mathlib.Core.Path.{◌≡◌}
use Prim.Native.Nat.{◌-◌}
use Rattle.volume.specs.Volume.{fmax}
use Rattle.marks.specs.Marks.{tallied}
use Rattle.slots.specs.Slots.{Stands, gathered}
use Rattle.links.specs.Links.{link_of}
use Rattle.links.proofs.raise_links.Given as goal

abbrev pub invariant-loop-n : goal.invariant-loop-n
invariant-loop-n l = record {
  stands : Stands l.image l.n l.run;
  marks : l.headers ≡ tallied (gathered l.image link_of (l.n - 1)) 1 (fmax l.image) l.initial.headers;
}
