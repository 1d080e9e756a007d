-- The part of the image is its storage map, and the run that is found there is the lowest.
use mathlib.Core.Path.{◌≡◌, ap, ap₂, ◌∙◌}
use mathlib.Core.List.{List}
use Rattle.std.specs.Prelude.{Some, None}
use Prim.Native.Nat.{ℕ}
use native.Mathlib.Omega.{arith}
use lib.ListN.{length}
use Rattle.image.specs.Blocks.{region}
use Rattle.answer.specs.Answers.{answer_of}
use Rattle.answer.specs.Outcome.{unless, ◌then◌}
use Rattle.home.specs.Home.{blocks}
use Rattle.volume.specs.Volume.{map_blocks, storage_map}
use Rattle.volume.specs.Opening.{Laid, Open}
use Rattle.volume.specs.declared.Volume.{Volume}
use Rattle.volume.proofs.VolumeLaws.{Opens, opens, says, says-base, storage_map-length}
use Rattle.lowest_run.specs.Runs.{start_of}
use Rattle.extend_plan.proofs.TestLaws.{begins}
use Rattle.extend_plan.proofs.find_run.Goals as goal

-- The part of the image that is read is its storage map.
map-is : (image : List ℕ) (v : Volume) → Open image v → (m : List ℕ) (q : ℕ) → m ≡ region image v.base.0 q → q ≡ map_blocks v.blocks → m ≡ storage_map image
unfolding storage_map
map-is image v o m q e f =
    e ∙ ap₂ (region image) (says-base image v o.1) (f ∙ ap map_blocks (says image v o.1).blocks)

pub lowest_run-requires : goal.lowest_run-requires
unfolding map_blocks
lowest_run-requires c =
    let image : List ℕ = c.args.image.now in
    let laid : Laid image c.args.v = says image c.args.v c.requires.0.1 in
    let map : c.region-map.result.now ≡ storage_map image =
    map-is image c.args.v c.requires.0 _ _ c.region-map.ensures c.map_blocks.ensures.0 in
    let opened : Opens image = opens image c.requires.0.0 in (
      c.requires.1,
      omega (arith, ap length map, storage_map-length opened, laid.blocks),
      omega (arith, laid.blocks, opened.most),
      omega (arith, c.requires.2),
    )

pub returns-then-not-has_room : goal.returns-then-not-has_room
unfolding unless ◌then◌ answer_of
returns-then-not-has_room c = grind arith

pub returns-in_err-first : goal.returns-in_err-first
unfolding unless ◌then◌ answer_of
returns-in_err-first c =
    let image : List ℕ = c.args.image.now in
    let laid : Laid image c.args.v = says image c.args.v c.requires.0.1 in
    let map : c.region-map.result.now ≡ storage_map image =
    map-is image c.args.v c.requires.0 _ _ c.region-map.ensures c.map_blocks.ensures.0 in
    let told : start_of (storage_map image) (blocks image) c.args.c ≡ None = cc (c.in_err-first.ensures.ok_part, map, laid.blocks) in
    let none = begins image c.args.c _ told in
    grind arith

pub returns : goal.returns
unfolding unless ◌then◌ answer_of
returns c =
    let image : List ℕ = c.args.image.now in
    let laid : Laid image c.args.v = says image c.args.v c.requires.0.1 in
    let map : c.region-map.result.now ≡ storage_map image =
    map-is image c.args.v c.requires.0 _ _ c.region-map.ensures c.map_blocks.ensures.0 in
    let told : start_of (storage_map image) (blocks image) c.args.c ≡ Some c.in_ok-first.first = cc (c.in_ok-first.ensures.ok_part, map, laid.blocks) in
    let b = begins image c.args.c _ told in
    rw (← b.1) (grind arith)
