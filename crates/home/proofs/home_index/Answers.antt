-- The loop is at i while none of the first i positions has a home block.
use native.Mathlib.Omega.{arith}
use mathlib.Core.Path.{◌∙◌}
use Rattle.std.proofs.lemmas.Grind.{common_steps}
use Rattle.lists.proofs.FirstLaws.{first-start, first-here, first_on, first-none}
use Rattle.image.proofs.BlockLaws.{block-length}
use Rattle.home.specs.Home.{positions, home_at}
use Rattle.home.proofs.HomeLaws.{position-below, home_index_by}
use Rattle.home.proofs.home_index.Goals as goal

pub loop-i-init : goal.loop-i-init
loop-i-init c = (omega arith, home_index_by c.args.image.now c.args.n c.requires.0 ∙ first-start (home_at c.args.image.now) (positions c.args.n))

pub is_home-requires : goal.is_home-requires
unfolding positions
is_home-requires c =
    rw c.block.ensures (block-length c.args.image.now c.position.result.0 (omega (arith, position-below c.args.n c.loop-i.i (omega arith) (omega arith))))

pub returns-then-is_home : goal.returns-then-is_home
unfolding home_at positions
returns-then-is_home c = (grind (arith, common_steps, first-here), omega arith)

pub loop-i-preserved : goal.loop-i-preserved
unfolding home_at positions
loop-i-preserved c = (omega arith, grind (arith, common_steps, first_on))

pub returns : goal.returns
unfolding positions
returns c = grind (arith, common_steps, first-none)
