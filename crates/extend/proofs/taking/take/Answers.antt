-- The header lies off the storage map, so it is as it was.
use mathlib.Core.Path.{◌≡◌, ap, ap₂, ◌∙◌}
use mathlib.Core.List.{List}
use Prim.Native.Nat.{ℕ}
use native.Mathlib.Omega.{arith}
use Rattle.image.specs.Blocks.{block}
use Rattle.volume.proofs.VolumeLaws.{Opens, opens}
use Rattle.header_edit.specs.Extended.{extended_header}
use Rattle.image.specs.Stores.{put_block}
use Rattle.extend.proofs.TakeLaws.{taken-block}
use Rattle.extend.proofs.taking.take.Goals as goal

pub take_blocks-requires : goal.take_blocks-requires
take_blocks-requires c = (c.requires.0, c.requires.1.fits)

pub point_to-requires : goal.point_to-requires
point_to-requires c =
    let image : List ℕ = c.args.image.now in
    let a = c.args in
    let opened : Opens image = opens image c.requires.0.0 in
    let same : block c.take_blocks.new.image a.last.0 ≡ block image a.last.0 =
    ap (λ (i : List ℕ). block i a.last.0) c.take_blocks.ensures ∙ taken-block image opened a.last.0 c.requires.1.apart a.lbn.0 a.c 0 in
    let p = c.requires.1 in (
      omega (arith, c.take_blocks.auto.image, p.inside, opened.size),
      rw same p.area,
      rw same p.room,
      omega (arith, p.fits, opened.most),
      p.least,
      p.most,
    )

pub returns : goal.returns
returns c =
    let image : List ℕ = c.args.image.now in
    let a = c.args in
    let opened : Opens image = opens image c.requires.0.0 in
    let same : block c.take_blocks.new.image a.last.0 ≡ block image a.last.0 =
    ap (λ (i : List ℕ). block i a.last.0) c.take_blocks.ensures ∙ taken-block image opened a.last.0 c.requires.1.apart a.lbn.0 a.c 0 in
    c.point_to.ensures
    ∙ ap₂ (λ (i h : List ℕ). put_block i a.last.0 (extended_header h a.lbn.0 a.c)) c.take_blocks.ensures same
