-- No record before the next is wanted.
use borrow.Author.Rules.{rules}
use Prim.Native.Nat.{◌+◌, ◌-◌}
use mathlib.Core.Path.{◌≡◌}
use native.Mathlib.Omega.{arith}
use Rattle.std.proofs.lemmas.Grind.{common_steps}
use Rattle.lists.proofs.FirstLaws.{first-here, first_on, first-none}
use Rattle.record_search.proofs.first_named.Goals as goal

pub loop-left-init : goal.loop-left-init
loop-left-init c =
    let e : c.args.to - (c.args.to - c.args.from) ≡ c.args.from = omega arith in
    (search rules, rw e)

pub returns-then-is_named : goal.returns-then-is_named
returns-then-is_named c = grind (arith, common_steps, first-here)

pub loop-left-preserved : goal.loop-left-preserved
loop-left-preserved c =
    let e : c.args.to - c.loop-left.left + 1 ≡ c.args.to - (c.loop-left.left - 1) = omega arith in
    grind (arith, common_steps, first_on)

pub returns : goal.returns
returns c = grind (arith, common_steps, first-none)
