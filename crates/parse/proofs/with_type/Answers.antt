-- The run ends where the definition has its end.
use native.Mathlib.Omega.{arith}
use mathlib.Core.Path.{◌≡◌, ◌∙◌}
use Rattle.std.proofs.lemmas.Grind.{common_steps}
use Prim.Native.Nat.{◌≤◌}
use Rattle.parse.specs.Parse.{span, with_type}
use Rattle.parse.proofs.ParseLaws.{prefix_len_span}
use Rattle.parse.proofs.with_type.Goals as goal

pub returns : goal.returns
unfolding with_type
returns c =
    let e : c.span-end.result ≡ span c.args.s.now = c.span-end.ensures ∙ prefix_len_span c.args.s.now in
    let most : c.span-end.result ≤ 3 = omega arith in
    grind (arith, common_steps, e)
