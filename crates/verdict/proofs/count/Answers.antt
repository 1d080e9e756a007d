-- Marks, storage map and index map, each counted.
use mathlib.Core.Path.{◌≡◌, refl, ap, ap₂, ◌∙◌}
use mathlib.Core.List.{List}
use Prim.Native.Nat.{ℕ}
use native.Mathlib.Omega.{arith}
use lib.ListN.{length}
use borrow.Author.Rules.{rules}
use Rattle.image.specs.Blocks.{region}
use Rattle.volume.specs.Volume.{index_map, map_blocks, volume_of}
use Rattle.volume.specs.declared.Volume.{Volume}
use Rattle.volume.proofs.VolumeLaws.{opens, says, fmax-below, storage_map-length, index_map-length}
use Rattle.lists.specs.Counts.{how_many}
use Rattle.marks.specs.Marks.{marked}
use Rattle.image.specs.Bits.{is_set}
use Rattle.covers.proofs.MarkedLaws.{map-read}
use Rattle.verdict.specs.Verdict.{counts_of}
use Rattle.verdict.proofs.CountingLaws.{claimed-marked, free-read, headers-read}
use Rattle.verdict.proofs.count.Goals as goal

-- The blocks that are read as the index map.
numbers-read : (image : List ℕ) (v : Volume) (m : List ℕ) → v ≡ volume_of image → m ≡ region image v.iblb.0 v.ibsz → m ≡ index_map image
unfolding index_map
numbers-read image v m e f = f ∙ ap₂ (region image) (says image v e).iblb (says image v e).ibsz

pub count_marked-claimed-requires : goal.count_marked-claimed-requires
count_marked-claimed-requires c =
    let total = (says _ c.args.v c.requires.0.1).blocks in
    (omega (arith, c.requires.1, total), omega (arith, total, (opens _ c.requires.0.0).most))

pub count_set-free-requires : goal.count_set-free-requires
unfolding map_blocks
count_set-free-requires c =
    let opened = opens _ c.requires.0.0 in
    let storage = map-read _ c.args.v _ _ c.requires.0 c.map_blocks.ensures.0 c.region.ensures in
    omega (arith, ap length storage, storage_map-length opened, opened.most)

pub count_first_set-headers-requires : goal.count_first_set-headers-requires
unfolding map_blocks
count_first_set-headers-requires c =
    let opened = opens _ c.requires.0.0 in
    let fmax = (says _ c.args.v c.requires.0.1).fmax in
    let numbers = numbers-read _ c.args.v _ c.requires.0.1 c.region-2.ensures in (
      omega (arith, ap length numbers, index_map-length opened, opened.maps, fmax),
      omega (arith, fmax, fmax-below c.args.image.now (record { each = λ i. search rules })),
    )

pub returns : goal.returns
unfolding counts_of
returns c =
    let image : List ℕ = c.args.image.now in
    let v = says image c.args.v c.requires.0.1 in
    let storage = map-read image c.args.v _ _ c.requires.0 c.map_blocks.ensures.0 c.region.ensures in
    let numbers = numbers-read image c.args.v _ c.requires.0.1 c.region-2.ensures in
    let a = c.count_marked-claimed.ensures ∙ ap (how_many (marked c.args.area.now) 0) v.blocks ∙ claimed-marked image c.args.area.now c.requires.2 in
    let b = c.count_set-free.ensures ∙ free-read image c.region.result.now (opens image c.requires.0.0) storage in
    let h = c.count_first_set-headers.ensures ∙ ap₂ (λ (l : List ℕ) (k : ℕ). how_many (is_set l) 0 k) numbers v.fmax ∙ headers-read image in
    rw (v.blocks, a, b, h) refl
