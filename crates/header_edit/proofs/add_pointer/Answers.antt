-- The pointer is stored where the last one ends, and leaves the map area where it was.
use mathlib.Core.Path.{◌≡◌, ap}
use native.Mathlib.Omega.{arith}
use borrow.Author.Rules.{rules}
use Rattle.header.specs.Fields.{map_area}
use Rattle.header_edit.specs.Extended.{put_pointer, next_pointer, extended_header}
use Rattle.header_edit.proofs.ExtendedLaws.{next-inside, use-inside}
use Rattle.header_edit.proofs.add_pointer.Goals as goal

pub put_pointer-requires : goal.put_pointer-requires
unfolding next_pointer
put_pointer-requires c =
    let h = c.args.h.now in
    (omega (arith, next-inside h (omega arith) (omega arith)), search rules, search rules, search rules)

pub put_use-requires : goal.put_use-requires
unfolding next_pointer
put_use-requires c =
    let a = c.args in
    let e : c.put_pointer.new.h ≡ put_pointer a.h.now (next_pointer a.h.now) a.lbn.0 a.c = cc in
    omega (arith, ap map_area e, use-inside a.h.now (omega arith) (omega arith) a.lbn.0 a.c)

pub returns : goal.returns
unfolding extended_header next_pointer
returns c = cc
