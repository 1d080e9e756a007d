-- The volume is opened first.
use Rattle.std.proofs.Common.{rules}
use mathlib.Core.Path.{◌≡◌, ◌∙◌}
use Rattle.open_file.specs.Opening.{anyone}
use Rattle.open_file.proofs.OpeningLaws.{places-refused, by-unopened, by-on}
use Rattle.open_file.proofs.open.Goals as goal

pub returns-in_err-volume : goal.returns-in_err-volume
returns-in_err-volume c = places-refused c.args.image.now c.args.id _ _ _ _ (search rules) (by-unopened anyone c.args.image.now c.args.id _ c.in_err-volume.ensures)

pub returns-in_err-file : goal.returns-in_err-file
returns-in_err-file c = places-refused c.args.image.now c.args.id _ _ _ _ (search rules) (by-on anyone c.args.image.now c.args.id c.in_ok-volume.ensures.0 ∙ c.in_err-file.ensures)

pub returns : goal.returns
returns c =
    let o = c.in_ok-volume.ensures in
    let f = c.in_ok-file.ensures in
    (by-on anyone c.args.image.now c.args.id o.0 ∙ f.0, o.1, f.1, f.2, f.3, o.2)
