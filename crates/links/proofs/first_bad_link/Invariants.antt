-- The loop is at a number while none of those below it offends, and its run of slots stands there.
use mathlib.Core.Path.{◌≡◌}
use Prim.Native.Nat.{◌+◌, ◌-◌}
use Rattle.lists.specs.First.{first}
use Rattle.slots.specs.Slots.{Stands}
use Rattle.links.specs.Links.{linked, bad_links, links_place}
use Rattle.links.proofs.first_bad_link.Given as goal

abbrev pub invariant-loop-number : goal.invariant-loop-number
invariant-loop-number l = record {
  stands : Stands l.image l.number l.run;
  place : links_place l.image ≡ first (bad_links l.image (linked l.image)) l.number (l.v.fmax + 1 - l.number);
}
