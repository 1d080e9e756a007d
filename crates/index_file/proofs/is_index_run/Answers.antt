-- While the loop goes on, the first i blocks are the index file's.
use native.Mathlib.Omega.{arith}
use mathlib.Core.Path.{sym}
use Prim.Native.Nat.{◌+◌}
use lib.Dec.{eqb}
use borrow.Author.Tests.{ne_eqb}
use Rattle.lists.proofs.BelowLaws.{below_fails}
use Rattle.volume.specs.Opening.{index_lbn}
use Rattle.volume.proofs.OpeningLaws.{run-rises}
use Rattle.index_file.proofs.is_index_run.Goals as goal

pub returns-then-lbn-i : goal.returns-then-lbn-i
returns-then-lbn-i c =
    let a = c.args in
    let i = c.loop-i.i in
    sym (below_fails a.c (λ i. eqb (a.lbn.0 + i) (index_lbn a.home.0 a.iblb.0 (a.k + i))) i (omega arith) (ne_eqb (a.lbn.0 + i) (index_lbn a.home.0 a.iblb.0 (a.k + i)) (omega arith)))

pub returns-then-k-i-ge2 : goal.returns-then-k-i-ge2
returns-then-k-i-ge2 c =
    let a = c.args in
    sym (run-rises a.home.0 a.iblb.0 a.lbn.0 a.k a.c c.loop-i.i (omega arith) (omega arith) c.loop-i.invariant)
