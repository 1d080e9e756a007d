-- At each turn the total is the number of marks so far that say "covered".
use Rattle.std.proofs.Common.{sym, arith, rules}
use Rattle.marks.specs.Marks.{marked}
use Rattle.lists.proofs.CountLaws.{how_many-none, how_many-next}
use Rattle.marks.proofs.MarkLaws.{marked-one}
use Rattle.marks.proofs.count_marked.Goals as goal

pub loop-i-init : goal.loop-i-init
loop-i-init c = (search rules, sym (how_many-none _ _))

pub loop-i-preserved : goal.loop-i-preserved
loop-i-preserved c =
    let area = c.args.area.now in
    let i = c.loop-i.i in
    (omega arith, omega (arith, how_many-next (marked area) i, marked-one area i))
