-- The blocks of the run lie one behind the other; past their last record nothing is searched.
use mathlib.Core.Path.{◌≡◌, sym}
use Prim.Native.Nat.{◌*◌, min}
use native.Mathlib.Omega.{arith}
use lib.ListN.{length}
use Rattle.lists.specs.Lists.{numbers_from}
use Rattle.lists.proofs.NumbersLaws.{numbers_from-length}
use Rattle.image.proofs.BlockLaws.{region-length}
use Rattle.directory.proofs.SearchLaws.{search-run, search-none, search-range}
use Rattle.directory.proofs.search_run.Goals as goal

pub returns-then-end-from : goal.returns-then-end-from
returns-then-end-from c =
    let a = c.args in
    let none = search-none a.image.now (numbers_from a.lbn.0 a.count) a.w a.from a.to (omega (arith, c.min-end.ensures, numbers_from-length a.lbn.0 a.count)) in
    search-range _ _ _ _ _ (omega arith) _ (sym none)

pub first_in-requires : goal.first_in-requires
first_in-requires c =
    let a = c.args in
    let long : length c.region-b.result.now ≡ 512 * a.count = rw c.region-b.ensures (region-length a.image.now a.lbn.0 a.count (omega arith)) in
    (omega arith, omega (arith, c.min-end.ensures, long))

pub returns : goal.returns
returns c =
    let a = c.args in
    let e : c.min-end.result ≡ min a.to (32 * a.count) = omega (arith, c.min-end.ensures) in
    search-range _ _ _ _ _ (omega arith) _
    (rw (search-run a.image.now a.lbn.0 a.count a.w a.from a.to, ← c.region-b.ensures, ← e) c.first_in.ensures)
