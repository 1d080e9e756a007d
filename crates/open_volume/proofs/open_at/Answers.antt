-- The test is the definition's, on the home block.
use native.Mathlib.Omega.{arith}
use mathlib.Core.Path.{◌≡◌, sym, ap, ◌∙◌}
use Rattle.image.specs.Blocks.{block}
use Rattle.home.specs.Home.{h_ibsz, h_iblb, h_fmax, home}
use Rattle.volume.specs.Volume.{ibsz, iblb, fmax}
use Rattle.volume.specs.Opening.{geometry}
use Rattle.open_volume.proofs.open_at.Goals as goal

pub open_laid_out-requires : goal.open_laid_out-requires
unfolding ibsz iblb fmax geometry
open_laid_out-requires c =
    let b : c.block-b.result.now ≡ block c.args.image.now (home c.args.image.now) =
    c.block-b.ensures ∙ ap (block c.args.image.now) c.requires.3 in
    let fit : c.has_geometry.result ≡ geometry c.args.image.now = rw (← b, ← c.requires.2) c.has_geometry.ensures in (
      c.requires.0,
      c.requires.1,
      sym fit ∙ c.if-not-has_geometry.false,
      record {
        blocks = c.requires.2;
        home = c.requires.3;
        ibsz = omega (arith, ap h_ibsz b);
        iblb = omega (arith, ap h_iblb b);
        fmax = omega (arith, ap h_fmax b);
      },
      c.requires.4,
    )
