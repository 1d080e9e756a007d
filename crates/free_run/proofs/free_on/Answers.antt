-- The part of the image is its storage map, and its bits are searched for the first that is set, and from there on for the first that is not.
use Rattle.std.specs.Prelude.{Ok}
use mathlib.Core.Path.{◌≡◌, ap, ap₂, ◌∙◌}
use mathlib.Core.List.{List}
use Prim.Native.Nat.{ℕ, ◌*◌, ◌≤◌, ◌<◌}
use native.Mathlib.Omega.{arith}
use lib.ListN.{length}
use Rattle.image.specs.Blocks.{region}
use Rattle.home.specs.Home.{blocks}
use Rattle.volume.specs.declared.Volume.{Volume}
use Rattle.volume.specs.Volume.{map_blocks, storage_map, volume_of}
use Rattle.volume.specs.Opening.{open_volume}
use Rattle.volume.proofs.VolumeLaws.{opens, says, says-base, storage_map-length}
use Rattle.free_run.specs.Free.{next_bit, next_free, next_taken}
use Rattle.free_run.proofs.FreeLaws.{next_low, run-done, run-absent}
use Rattle.free_run.proofs.free_on.Goals as goal

-- The part of q blocks from the LBN on that the volume record gives.
module _ (image : List ℕ) (v : Volume) (o : open_volume image ≡ Ok tt) (e : v ≡ volume_of image) (map : List ℕ) (q : ℕ) (f : map ≡ region image v.base.0 q) (g : q ≡ map_blocks v.blocks) where
  map-is : map ≡ storage_map image
  unfolding storage_map
  map-is = f ∙ ap₂ (region image) (says-base image v e) (g ∙ ap map_blocks (says image v e).blocks)

  map-long : (v.blocks ≤ 8 * length map) × (v.blocks < 2147483648)
  unfolding map_blocks
  map-long =
      let known = (says image v e).blocks in
      (omega (arith, ap length map-is, storage_map-length (opens image o), known), omega (arith, known, (opens image o).most))

  read : (b from : ℕ) → next_bit map v.blocks b from ≡ next_bit (storage_map image) (blocks image) b from
  read b from = ap₂ (λ (m : List ℕ) (n : ℕ). next_bit m n b from) map-is (says image v e).blocks

pub next_bit-start-requires : goal.next_bit-start-requires
next_bit-start-requires c = map-long c.args.image.now c.args.v c.requires.0 c.requires.1 _ _ c.region-map.ensures c.map_blocks.ensures.0

pub returns-then-v-start : goal.returns-then-v-start
unfolding next_free
returns-then-v-start c =
    let image = c.args.image.now in
    let r = c.requires in
    run-absent image c.args.from.0 r.0 _ (c.next_bit-start.ensures ∙ read image c.args.v r.0 r.1 _ _ c.region-map.ensures c.map_blocks.ensures.0 1 c.args.from.0)
    (omega (arith, (says image c.args.v r.1).blocks))

pub next_bit-end-requires : goal.next_bit-end-requires
next_bit-end-requires c = map-long c.args.image.now c.args.v c.requires.0 c.requires.1 _ _ c.region-map.ensures c.map_blocks.ensures.0

pub overflow_sub-result : goal.overflow_sub-result
overflow_sub-result c = omega (arith, next_low c.region-map.result.now c.args.v.blocks 0 c.next_bit-start.result)

pub returns : goal.returns
unfolding next_taken next_free
returns c =
    let image = c.args.image.now in
    let r = c.requires in
    let same = read image c.args.v r.0 r.1 _ _ c.region-map.ensures c.map_blocks.ensures.0 in
    run-done image c.args.from.0 r.0 _ _ (c.next_bit-start.ensures ∙ same 1 c.args.from.0) (c.next_bit-end.ensures ∙ same 0 c.next_bit-start.result)
    (omega (arith, (says image c.args.v r.1).blocks))
