-- Create: its answer, and the image after it.
use Rattle.std.specs.Prelude.{List, [], ◌∷◌, ℕ, ◌+◌, ◌-◌, leb}
use Rattle.image.specs.Stores.{put_block, put_map_bits}
use Rattle.answer.specs.declared.types.FileId.{FileId}
use Rattle.answer.specs.declared.types.Name.{Name}
use Rattle.answer.specs.declared.refusal.Refusal.TheVariants as refusal
use Rattle.answer.specs.Outcome.{unless, ◌then◌, Outcome, Answer}
use Rattle.answer.specs.Answers.{answer_of}
use Rattle.names.specs.Names.{proper}
use Rattle.header.specs.Fields.{h_fseq}
use Rattle.fresh_header.specs.Fresh.{fresh_header}
use Rattle.volume.specs.Volume.{ibsz, iblb, fmax, slot, header}
use Rattle.verdict.specs.Verdict.{verdict, afterwards}
use Rattle.update.specs.Writes.{used_bit}
use Rattle.spare_number.specs.SpareNumber.{spare_number}

-- 01, Create: "The sequence is that word plus 1."
unfoldable pub new_sequence : List ℕ → ℕ → ℕ
new_sequence image n = h_fseq (header image n) + 1

-- 01, Answer numbers: "then by number", of which create has "14 NAME | not proper" and "27 NONUMBER | create finds no n". What create asks of a volume
-- that is judged.
unfoldable pub create_tests : List ℕ → Name → Outcome
create_tests image name = unless (proper name) refusal.Name then unless (leb (spare_number image) (fmax image)) refusal.Nonumber

-- 01, Answer numbers: "1 to 5; 16; 17 to 21 where judged", and then these. The work areas have lengths b and h.
unfoldable pub create_outcome : List ℕ → Name → ℕ → ℕ → Outcome
create_outcome image name b h = verdict image b h then create_tests image name

-- 01, Create: "Answer: the ID." Its third word is 0. 01, Volume V: "Create gives 7,1,0."
unfoldable pub new_id : List ℕ → FileId
new_id image = record { number = spare_number image; sequence = new_sequence image (spare_number image); volume = 0 }

-- The answer of create. 01, Answer numbers: DONE has as value the "ID (look-up, create)".
unfoldable pub create_answer : List ℕ → Name → ℕ → ℕ → Answer FileId
create_answer image name b h = answer_of (create_outcome image name b h) (new_id image)

-- Where the index map has the bit of number n. 01, Index file: "index map bit n−1".
unfoldable pub index_bit : ℕ → ℕ
index_bit n = n - 1

-- The image with the header h in the slot of number n, and then the bit of n set. 02, 11/14: "create writes header, then index bit".
unfoldable pub with_number : List ℕ → ℕ → List ℕ → List ℕ
with_number image n h = put_map_bits (put_block image (slot image n) h) (iblb image) (ibsz image) (index_bit n ∷ []) used_bit

-- 01, Create: "Header: .." and "The index bit is set."
unfoldable pub with_file : List ℕ → Name → ℕ → ℕ → List ℕ
with_file image name owner protection =
    with_number image (spare_number image) (fresh_header (spare_number image) (new_sequence image (spare_number image)) owner protection name)

-- The image after create. 00, 1: "A refused call changes no byte of the image".
unfoldable pub create_image : List ℕ → Name → ℕ → ℕ → ℕ → ℕ → List ℕ
create_image image name owner protection b h = afterwards (create_outcome image name b h) image (with_file image name owner protection)
