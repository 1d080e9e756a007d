-- Delete: its answer, and the image after it.
use Rattle.std.specs.Prelude.{not, List, [], ◌∷◌, ℕ}
use Rattle.image.specs.Blocks.{block}
use Rattle.image.specs.Stores.{put_block, put_map_bits}
use Rattle.answer.specs.declared.types.FileId.{FileId}
use Rattle.answer.specs.declared.refusal.Refusal.TheVariants as refusal
use Rattle.answer.specs.Outcome.{unless, ◌then◌, Outcome}
use Rattle.header_edit.specs.Cleared.{cleared_slot}
use Rattle.home.specs.Home.{blocks}
use Rattle.volume.specs.Volume.{ibsz, iblb, header, map_blocks, base}
use Rattle.chains.specs.Chains.{chain_of, slots_of}
use Rattle.pointers.specs.Pointers.{flat}
use Rattle.open_file.specs.Opening.{open_file}
use Rattle.verdict.specs.Verdict.{verdict, afterwards}
use Rattle.update.specs.Writes.{unused_bit, free_bit}
use Rattle.update.specs.Create.{index_bit}
use Rattle.update.specs.Extend.{is_known_number}

-- 01, Answer numbers: "6 to 12; then by number", of which delete has "22 KNOWN | extend or delete of 1 to 5". What delete asks of a volume that is judged.
unfoldable pub delete_tests : List ℕ → FileId → Outcome
delete_tests image id = open_file image id then unless (not (is_known_number id.number)) refusal.Known

-- 01, Answer numbers: "1 to 5; 16; 17 to 21 where judged", and then these. The work areas have lengths b and h.
unfoldable pub delete_outcome : List ℕ → FileId → ℕ → ℕ → Outcome
delete_outcome image id b h = verdict image b h then delete_tests image id

-- The answer of delete. 01, Answer numbers: DONE has as value "0 for delete".
unfoldable pub delete_answer : List ℕ → FileId → ℕ → ℕ → Outcome
delete_answer image id b h = delete_outcome image id b h

-- The bits of a list of numbers in the index map.
unfoldable pub index_bits : List ℕ → List ℕ
index_bits [] = []
index_bits (n ∷ ns) = index_bit n ∷ index_bits ns

-- 01, Delete: "its slots 0 but for the sequence word". The blocks of a list of LBNs are the slots.
unfoldable pub clear_slots : List ℕ → List ℕ → List ℕ
clear_slots image [] = image
clear_slots image (k ∷ ks) = clear_slots (put_block image k (cleared_slot (block image k))) ks

-- The image without the files' headers of a list of numbers: their index bits clear, then their slots, then their blocks free. 01, Delete: "index bits of
-- the whole chain clear, its blocks free, its slots 0 but for the sequence word". 02, 11/14: "delete writes index bit, slot, then storage map".
unfoldable pub without_numbers : List ℕ → List ℕ → List ℕ
without_numbers image ns =
    put_map_bits
    (clear_slots (put_map_bits image (iblb image) (ibsz image) (index_bits ns) unused_bit) (slots_of image ns)) (base image) (map_blocks (blocks image))
    (flat (header image) ns) free_bit

-- The image after delete. 00, 1: "A refused call changes no byte of the image".
unfoldable pub delete_image : List ℕ → FileId → ℕ → ℕ → List ℕ
delete_image image id b h = afterwards (delete_outcome image id b h) image (without_numbers image (chain_of image id.number))
