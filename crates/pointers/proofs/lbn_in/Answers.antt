-- A place past the last block has LBN 0 in the list as well.
use Rattle.pointers.specs.Pointers.{blocks_of}
use Rattle.pointers.proofs.PointerLaws.{place-or_zero}
use Rattle.pointers.proofs.lbn_in.Goals as goal

pub returns : goal.returns
returns c = rw (c.unwrap_or.ensures, c.place_of.ensures) (place-or_zero (blocks_of c.args.h.now) c.args.i)
