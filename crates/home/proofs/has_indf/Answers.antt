-- The code's label is the definition's.
use mathlib.Core.Path.{ap, ◌∙◌}
use mathlib.Core.List.{List}
use Prim.Native.Nat.{ℕ, ◌-◌}
use native.Mathlib.Omega.{arith}
use lib.ListN.{length, drop, length-drop}
use lib.Seq.{take_all}
use Rattle.std.specs.Bool.{nat_eq}
use Rattle.std.specs.List.{starts_with}
use Rattle.home.specs.Home.{indf}
use Rattle.home.proofs.HomeLaws.{starts_with-indf}
use Rattle.home.proofs.has_indf.Goals as goal

pub returns : goal.returns
unfolding indf
returns c =
    let b = c.args.b.now in
    c.starts_with.ensures.value
    ∙ ap (λ (s : List ℕ). starts_with nat_eq s indf) (take_all (length b - 496) (drop 496 b) (omega (arith, length-drop 496 b)))
    ∙ starts_with-indf b c.requires
