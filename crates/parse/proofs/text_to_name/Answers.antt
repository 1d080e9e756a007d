-- The run ends where the definition has its end.
use native.Mathlib.Omega.{arith}
use mathlib.Core.Path.{◌≡◌, ◌∙◌}
use Rattle.std.proofs.lemmas.Grind.{common_steps}
use Prim.Native.Nat.{◌≤◌}
use Rattle.parse.specs.Parse.{span, text_to_name_answer}
use Rattle.parse.proofs.ParseLaws.{prefix_len_span}
use Rattle.parse.proofs.text_to_name.Goals as goal

pub returns : goal.returns
unfolding text_to_name_answer
returns c =
    let e : c.span-end.result ≡ span c.args.text.now = c.span-end.ensures ∙ prefix_len_span c.args.text.now in
    let most : c.span-end.result ≤ 9 = omega arith in
    grind (arith, common_steps, e)
