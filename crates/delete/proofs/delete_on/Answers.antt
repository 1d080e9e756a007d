-- The tests are those of the definition, and where all are passed the chain is given up.
use mathlib.Core.Path.{◌≡◌, ◌∙◌}
use native.Mathlib.Omega.{arith}
use borrow.Author.Rules.{rules}
use Rattle.std.specs.Prelude.{Ok}
use Rattle.answer.specs.Outcome.{unless, ◌then◌}
use Rattle.open_file.specs.Opening.{anyone, open_file}
use Rattle.open_file.proofs.OpeningLaws.{opened, by-on}
use Rattle.verdict.specs.Verdict.{afterwards}
use Rattle.update.specs.Extend.{is_known_number}
use Rattle.update.specs.Delete.{delete_tests}
use Rattle.delete.proofs.delete_on.Goals as goal

pub returns-in_err-file : goal.returns-in_err-file
unfolding delete_tests afterwards ◌then◌
returns-in_err-file c =
    let row = by-on anyone c.args.image.now c.args.id c.requires.0.0 ∙ c.in_err-file.ensures in
    (grind arith, grind arith)

pub returns-then-n-le5 : goal.returns-then-n-le5
unfolding delete_tests is_known_number afterwards unless ◌then◌
returns-then-n-le5 c =
    let row = by-on anyone c.args.image.now c.args.id c.requires.0.0 ∙ c.in_ok-file.ensures.0 in
    (grind arith, grind arith)

pub delete_chain-requires : goal.delete_chain-requires
delete_chain-requires c =
    let row : open_file c.args.image.now c.args.id ≡ Ok tt = by-on anyone _ _ c.requires.0.0 ∙ c.in_ok-file.ensures.0 in
    let o = opened c.args.image.now c.args.id row in
    let e : c.from.result ≡ c.args.id.number = search rules in
    rw e (c.requires.0, c.requires.1, o.found.first, o.chain, omega arith, c.in_ok-file.ensures.2)

pub returns : goal.returns
unfolding delete_tests is_known_number afterwards unless ◌then◌
returns c =
    let row = by-on anyone c.args.image.now c.args.id c.requires.0.0 ∙ c.in_ok-file.ensures.0 in
    (grind arith, grind arith)
