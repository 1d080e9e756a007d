-- Header 1 lies on the volume and its pointers in it; they map at least m+18 blocks.
use mathlib.Core.Path.{ap, ◌∙◌}
use Prim.Native.Nat.{ℕ, ◌+◌, ◌≤◌}
use mathlib.Core.List.{List}
use native.Mathlib.Omega.{arith}
use lib.ListN.{length}
use Rattle.home.specs.Home.{h_vlev}
use Rattle.volume.specs.declared.Volume.{Volume}
use Rattle.volume.specs.Volume.{index, map_blocks}
use Rattle.volume.specs.Opening.{Recorded}
use Rattle.volume.proofs.VolumeLaws.{index-file, opens, says, says-base, says-segments, segments-most}
use Rattle.volume_facts.proofs.VolumeLaws.{home_read, slot-count, geometry-is}
use Rattle.volume_facts.proofs.geometry_on.Goals as goal

-- The index map is small, and the index file has more blocks than come before the slots.
room : (image : List ℕ) (v : Volume) (at : List ℕ) → Recorded image v at → (v.ibsz ≤ 1044464) × (2 + v.ibsz ≤ length (index image))
room image v at r =
    let o = opens image r.0 in
    let known = (says image v r.1).ibsz in
    (omega (arith, known, o.fits, o.most), omega (arith, known, (index-file o).long))

pub overflow_add-first : goal.overflow_add-first
overflow_add-first c = omega (arith, room c.args.image.now c.args.v _ c.requires)

pub overflow_sub-result : goal.overflow_sub-result
overflow_sub-result c = omega (arith, room c.args.image.now c.args.v _ c.requires)

pub word_at-requires : goal.word_at-requires
word_at-requires c = omega (arith, home_read c.args.image.now c.args.v _ c.requires.0 c.requires.1 c.block.ensures)

pub overflow_cast-result : goal.overflow_cast-result
overflow_cast-result c = omega (arith, segments-most c.args.image.now c.args.v c.args.places.now c.requires)

pub returns : goal.returns
unfolding h_vlev
returns c =
    let image = c.args.image.now in
    let v = says image c.args.v c.requires.1 in
    let read = home_read image c.args.v _ c.requires.0 c.requires.1 c.block.ensures in
    geometry-is image _ v.blocks v.home v.ibsz v.iblb v.fmax
    (omega (arith, v.ibsz, slot-count image))
    (says-base image c.args.v c.requires.1)
    (c.map_blocks.ensures.0 ∙ ap map_blocks v.blocks)
    (rw (← read.0) c.word_at.ensures)
    (says-segments image c.args.v c.requires.1)
