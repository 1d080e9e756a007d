-- The block of the pointer, or how far past the last the place lies.
use Rattle.std.proofs.Common.{rules}
use Rattle.pointers.specs.Pointers.{place_in}
use Rattle.pointers.proofs.PointerLaws.{spot-at, spot_past}
use Rattle.pointers.proofs.place_of.Goals as goal

pub returns : goal.returns
returns c = spot-at _ _ _ _ _ c.in_ok-spot_of.ensures

pub returns-in_err-spot_of : goal.returns-in_err-spot_of
unfolding place_in
returns-in_err-spot_of c = search (rules, spot_past)
