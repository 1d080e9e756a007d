-- After some digits the number is the one that they write, below 10 to their count.
use native.Mathlib.Omega.{arith}
use native.Mathlib.Nat.{pow-suc}
use lib.ListN.{length}
use Rattle.radix50.specs.Table.{is_digit}
use Rattle.parse.proofs.ParseLaws.{value_none, value-more, digits-to-none, digits-to-more, digits-to-fails}
use Rattle.parse.proofs.number.Goals as goal

pub loop-x-init : goal.loop-x-init
loop-x-init c = grind (arith, value_none, digits-to-none)

pub returns-then-not-is_ascii_digit : goal.returns-then-not-is_ascii_digit
unfolding is_digit
returns-then-not-is_ascii_digit c = grind (arith, digits-to-fails c.args.d.now (length c.args.d.now) c.loop-x.x-index)

pub loop-x-preserved : goal.loop-x-preserved
unfolding is_digit
loop-x-preserved c = grind (arith, value-more c.args.d.now c.loop-x.x-index, digits-to-more c.args.d.now c.loop-x.x-index, pow-suc 10 c.loop-x.x-index)
