-- Laws of where the parts of a volume lie, and of its label.
use Rattle.std.specs.Prelude.{Ok}
use mathlib.Core.Path.{◌≡◌, refl, ap, ◌∙◌}
use mathlib.Core.List.{List}
use Prim.Native.Nat.{ℕ, ◌+◌, ◌-◌}
use native.Mathlib.Omega.{arith}
use lib.ListN.{length}
use Rattle.image.specs.Blocks.{block}
use Rattle.image.proofs.BlockLaws.{block-length}
use Rattle.home.specs.Home.{h_vlev, blocks, home}
use Rattle.volume.specs.declared.Volume.{Volume}
use Rattle.volume.specs.Volume.{ibsz, iblb, fmax, places, index, slots, base, map_blocks, volume_of}
use Rattle.volume.specs.Opening.{open_volume}
use Rattle.volume.proofs.VolumeLaws.{opens, home_below, says}
use Rattle.volume_facts.specs.declared.types.Geometry.{Geometry}
use Rattle.volume_facts.specs.Volumes.{geometry_of}

module _ (image : List ℕ) where
  -- The block that the volume record has for the home is the home, of 512 bytes.
  pub home_read : (v : Volume) (b : List ℕ) → open_volume image ≡ Ok tt → v ≡ volume_of image → b ≡ block image v.home.0 → (b ≡ block image (home image)) × (length b ≡ 512)
  home_read v b p e f =
      let o = opens image p in
      let is : b ≡ block image (home image) = f ∙ ap (block image) (says image v e).home in
      (is, rw is (block-length image (home image) (omega (arith, o.size, home_below o))))

  pub slot-count : slots image ≡ length (index image) - (2 + ibsz image)
  unfolding slots
  slot-count = refl

  -- The geometry, part by part.
  pub geometry-is : (g : Geometry) → g.blocks ≡ blocks image → g.home.0 ≡ home image → g.ibsz ≡ ibsz image → g.iblb.0 ≡ iblb image → g.fmax ≡ fmax image
      → g.slots ≡ slots image → g.map.0 ≡ base image → g.map_blocks ≡ map_blocks (blocks image) → g.vlev ≡ h_vlev (block image (home image))
      → g.index_headers ≡ length (places image) → g ≡ geometry_of image
  unfolding geometry_of
  geometry-is g blocks home ibsz iblb fmax slots map bits vlev headers = λ i. record {
    blocks = blocks i;
    home = record { 0 = home i };
    ibsz = ibsz i;
    iblb = record { 0 = iblb i };
    fmax = fmax i;
    slots = slots i;
    map = record { 0 = map i };
    map_blocks = bits i;
    vlev = vlev i;
    index_headers = headers i;
  }
