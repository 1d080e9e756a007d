-- Opening is refused, or the directory that opens is searched.
use mathlib.Core.Path.{sym}
use native.Mathlib.Omega.{arith}
use Rattle.directory.proofs.SearchLaws.{records-count}
use Rattle.look_up.proofs.LookUpLaws.{next-refused}
use Rattle.look_up.proofs.next_record.Goals as goal

pub next_opened-requires : goal.next_opened-requires
next_opened-requires c =
    let p = c.in-Ok.ensures in
    (p.0, p.1, omega (arith, c.record_count-count.ensures, p.2, records-count c.args.image.now c.args.id.number), p.3, p.5)

pub returns-in_default : goal.returns-in_default
returns-in_default c = sym (next-refused c.args.image.now c.args.id c.args.place _ c.in_default.ensures)
