-- `blank` makes the chain's test of each code.
use mathlib.Core.Path.{◌∙◌}
use borrow.Author.Rules.{rules}
use borrow.Author.Tests.{tests}
use Rattle.std.specs.Prelude.{◌==◌}
use Rattle.std.proofs.lemmas.Iterator.{YieldsList-from_slice}
use Rattle.std.proofs.lemmas.Iterator.Search.{all_from_yields_List}
use Rattle.names.proofs.NameLaws.{list_all-blank}
use Rattle.names.proofs.is_blank.Goals as goal

pub returns : goal.returns
returns c =
    all_from_yields_List (λ x. x == 0) _ _ _ c.all.ensures.ran (YieldsList-from_slice c.args.cs.now cc) (λ x b q k. search (rules, tests))
    ∙ list_all-blank c.args.cs.now
