-- Where every header is single, none is linked. Else the search leaves the marks as they were counted.
use native.Mathlib.Omega.{arith}
use mathlib.Core.Path.{sym, ap, ◌∙◌}
use lib.ListN.{length}
use Rattle.volume.specs.Volume.{fmax}
use Rattle.volume.proofs.VolumeLaws.{says}
use Rattle.marks.proofs.MarkLaws.{tallied-length}
use Rattle.links.specs.Links.{linked}
use Rattle.links.proofs.LinksLaws.{tallied-still, links-good, links-refused}
use Rattle.links.proofs.UnlinkedLaws.{unlinked-links, unlinked-marks}
use Rattle.links.proofs.links.Goals as goal

pub clear_first-requires : goal.clear_first-requires
clear_first-requires c =
    omega (arith, (says c.args.image.now c.args.v c.requires.0.1).fmax, c.requires.2)

pub returns-then-single : goal.returns-then-single
returns-then-single c =
    let image = c.args.image.now in
    let p = c.requires.3 c.if-single.true in
    (sym (unlinked-links image p), c.clear_first.ensures ∙ unlinked-marks image p (fmax image) _ c.args.headers.now (says image c.args.v c.requires.0.1).fmax)

pub first_bad_link-requires : goal.first_bad_link-requires
first_bad_link-requires c =
    let image = c.args.image.now in
    let headers = c.args.headers.now in (
      c.requires.0,
      c.requires.1,
      omega (arith, ap length c.count_links.ensures, tallied-length (linked image) 1 (fmax image) headers c.requires.2, c.requires.2),
      tallied-still (linked image) 1 (fmax image) headers _ c.count_links.ensures,
    )

pub returns-in-Some : goal.returns-in-Some
returns-in-Some c = (sym (links-refused c.args.image.now c.in-Some.n.0 c.in-Some.ensures.0 c.in-Some.ensures.1), c.count_links.ensures)

pub returns-in-None : goal.returns-in-None
returns-in-None c = (sym (links-good c.args.image.now c.in-None.ensures), c.count_links.ensures)
