-- Below n and from n on are searched one after the other.
use Rattle.std.proofs.Common.{◌∙◌, arith}
use Rattle.map_marks.proofs.WantedLaws.{unlike-found, unlike-past}
use Rattle.map_marks.proofs.first_unlike.Goals as goal

pub returns-in-Some : goal.returns-in-Some
returns-in-Some c =
    let a = c.args in
    (unlike-found a.map.now a.area.now a.n a.end (omega arith) (omega (arith, c.in-Some.ensures)) ∙ c.in-Some.ensures.0, omega (arith, c.in-Some.ensures))

pub returns : goal.returns
returns c =
    let a = c.args in
    rw (unlike-past a.map.now a.area.now a.n a.end (omega arith) (omega (arith, c.in_default.ensures))) c.first_set.ensures
