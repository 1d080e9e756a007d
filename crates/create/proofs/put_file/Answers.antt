-- The number that was found has a slot with a word below 65,535; the slot and the index map lie inside the image.
use borrow.Author.Rules.{rules}
use mathlib.Core.Path.{◌≡◌, ap, ◌∙◌}
use mathlib.Core.List.{List}
use native.Mathlib.Omega.{arith}
use Prim.Native.Nat.{ℕ, ◌≤◌, ◌<◌}
use borrow.Author.Tests.{le-leb}
use Rattle.image.specs.Words.{Bytes}
use Rattle.image.specs.Blocks.{block}
use Rattle.header.specs.Fields.{h_fseq}
use Rattle.volume.specs.declared.Volume.{Volume}
use Rattle.volume.specs.Volume.{fmax, slot, has_slot, header}
use Rattle.volume.specs.Volume.{map_blocks}
use Rattle.volume.specs.Opening.{Recorded}
use Rattle.volume.proofs.VolumeLaws.{opens, says, slot-below}
use Rattle.slots.proofs.SlotLaws.{opened-fmax}
use Rattle.spare_number.specs.SpareNumber.{spare_number}
use Rattle.update.specs.Create.{new_id, index_bit, with_number, with_file, new_sequence}
use Rattle.update.proofs.PassedLaws.{Spare, free-spare}
use Rattle.create.proofs.put_file.Goals as goal

module _ (image : List ℕ) (v : Volume) {at : List ℕ} (n : ℕ) (r : Recorded image v at) (bytes : Bytes image) (e : n ≡ spare_number image) (l : n ≤ v.fmax) where
  most : (n ≤ fmax image) × (n < 65536)
  most = let top = opened-fmax image v r bytes in (omega (arith, top), omega (arith, top))

  spare : Spare image n
  spare = free-spare image n e most.0

-- The word that is read in the slot of a number.
slot-word : (image : List ℕ) (n word : ℕ) (h : List ℕ) (lbn : ℕ) → word ≡ h_fseq h → h ≡ block image lbn → lbn ≡ slot image n → word ≡ h_fseq (header image n)
unfolding header
slot-word image n word h lbn e f g = e ∙ ap h_fseq (f ∙ ap (block image) g)

pub slot_at-lbn-requires : goal.slot_at-lbn-requires
unfolding has_slot
slot_at-lbn-requires c =
    let p = c.requires in
    (p.0, le-leb _ _ (spare _ c.args.v c.args.n.0 p.0 (record { each = λ i. search rules }) p.1 p.2).has)

pub overflow_cast-id : goal.overflow_cast-id
overflow_cast-id c =
    let p = c.requires in
    omega (arith, most _ c.args.v c.args.n.0 p.0 (record { each = λ i. search rules }) p.1 p.2)

pub overflow_add-id : goal.overflow_add-id
overflow_add-id c =
    let p = c.requires in
    let s = spare _ c.args.v c.args.n.0 p.0 (record { each = λ i. search rules }) p.1 p.2 in
    omega (arith, slot-word _ _ _ _ _ c.h_fseq.ensures c.block.ensures c.slot_at-lbn.ensures, s.word)

pub put_header-requires : goal.put_header-requires
put_header-requires c =
    let p = c.requires in
    let s = spare _ c.args.v c.args.n.0 p.0 (record { each = λ i. search rules }) p.1 p.2 in
    let opened = opens _ p.0.0 in
    omega (arith, c.slot_at-lbn.ensures, slot-below opened c.args.n.0 (omega (arith, s.low)) s.has, opened.size)

pub overflow_sub-n : goal.overflow_sub-n
overflow_sub-n c =
    let p = c.requires in
    omega (arith, (spare _ c.args.v c.args.n.0 p.0 (record { each = λ i. search rules }) p.1 p.2).low)

pub put_map_bit-requires : goal.put_map_bit-requires
unfolding map_blocks
put_map_bit-requires c =
    let p = c.requires in
    let bytes : Bytes c.args.image.now = record { each = λ i. search rules } in
    let s = spare _ c.args.v c.args.n.0 p.0 bytes p.1 p.2 in
    let top = most _ c.args.v c.args.n.0 p.0 bytes p.1 p.2 in
    let v = says _ c.args.v p.0.1 in
    let opened = opens _ p.0.0 in (
      omega (arith, c.put_header.auto.image, v.iblb, v.ibsz, opened.fits, opened.size),
      omega (arith, s.low, top, v.ibsz, opened.maps),
      omega arith,
    )

pub returns : goal.returns
unfolding new_id new_sequence with_file with_number index_bit
returns c =
    let word = slot-word c.args.image.now c.args.n.0 _ _ _ c.h_fseq.ensures c.block.ensures c.slot_at-lbn.ensures in
    let e = c.requires.1 in
    let v = says _ c.args.v c.requires.0.1 in
    (rw (word, ← e), rw (c.put_map_bit.ensures, c.put_header.ensures, ← e, ← c.slot_at-lbn.ensures, ← word, ← v.iblb, ← v.ibsz))
