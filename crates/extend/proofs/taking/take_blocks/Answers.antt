-- The storage map lies where the volume says, and a bit of it stands for each block.
use mathlib.Core.Path.{◌≡◌, ap, ◌∙◌}
use mathlib.Core.List.{List}
use Prim.Native.Nat.{ℕ}
use native.Mathlib.Omega.{arith}
use Rattle.home.specs.Home.{blocks}
use Rattle.volume.specs.Volume.{map_blocks, base}
use Rattle.volume.proofs.VolumeLaws.{Opens, opens, says, says-base, base-fits}
use Rattle.extend.proofs.taking.take_blocks.Goals as goal

pub put_map_run-requires : goal.put_map_run-requires
unfolding map_blocks
put_map_run-requires c =
    let image : List ℕ = c.args.image.now in
    let v = c.args.v in
    let place : v.base.0 ≡ base image = says-base image v c.requires.0.1 in
    let many : c.map_blocks-q.result ≡ map_blocks (blocks image) = c.map_blocks-q.ensures.0 ∙ ap map_blocks (says image v c.requires.0.1).blocks in
    let opened : Opens image = opens image c.requires.0.0 in
    (omega (arith, place, many, base-fits opened, opened.size), omega (arith, many, c.requires.1), omega arith)

pub returns : goal.returns
returns c =
    let image : List ℕ = c.args.image.now in
    let v = c.args.v in
    let place : v.base.0 ≡ base image = says-base image v c.requires.0.1 in
    let many : c.map_blocks-q.result ≡ map_blocks (blocks image) = c.map_blocks-q.ensures.0 ∙ ap map_blocks (says image v c.requires.0.1).blocks in
    rw (← place, ← many) c.put_map_run.ensures
