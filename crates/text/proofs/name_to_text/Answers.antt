use native.Mathlib.Omega.{arith}
use Prim.Native.Nat.{◌≤◌}
use lib.ListN.{length}
use Rattle.names.proofs.ProperLaws.{proper-parts}
use Rattle.text.specs.Text.{name_to_text_answer, text_after}
use Rattle.text.proofs.name_to_text.Goals as goal

pub returns-then-not-is_proper_parts : goal.returns-then-not-is_proper_parts
unfolding name_to_text_answer text_after
returns-then-not-is_proper_parts c =
    let room : 19 ≤ length c.args.text.now = omega arith in
    grind (arith, proper-parts c.args.n)
