-- Extend: its answer, and the image after it.
use Rattle.answer.specs.declared.types.Lbn.{Lbn}
use Rattle.std.specs.Prelude.{Bool, not, ◌&&◌, List, ℕ, ◌+◌, leb, ltb}
use Rattle.lists.specs.Lists.{numbers_from}
use Rattle.image.specs.Stores.{put_block, put_map_bits}
use Rattle.answer.specs.declared.types.FileId.{FileId}
use Rattle.answer.specs.declared.refusal.Refusal.TheVariants as refusal
use Rattle.answer.specs.Outcome.{unless, ◌then◌, Outcome, Answer}
use Rattle.answer.specs.Answers.{lbn_answer}
use Rattle.header.specs.Fields.{m_use, m_max}
use Rattle.header.specs.Flags.{is_fixed}
use Rattle.header_edit.specs.Extended.{extended_header}
use Rattle.home.specs.Home.{blocks}
use Rattle.volume.specs.Volume.{slot, header, map_blocks, base, storage_map}
use Rattle.lowest_run.specs.Runs.{starts, lowest_start}
use Rattle.chains.specs.Chains.{last_number}
use Rattle.open_file.specs.Opening.{open_file}
use Rattle.verdict.specs.Verdict.{verdict, afterwards}
use Rattle.update.specs.Writes.{taken_bit}

-- 01, Answer numbers: "22 KNOWN | extend or delete of 1 to 5".
unfoldable pub is_known_number : ℕ → Bool
is_known_number n = leb n 5

-- 01, Extend: "by c, 1 to 256".
unfoldable pub is_count : ℕ → Bool
is_count c = leb 1 c && leb c 256

-- 01, Answer numbers: "25 FULL | M.USE+2 above M.MAX". The header has room for one pointer more.
unfoldable pub has_room : List ℕ → Bool
has_room h = leb (m_use h + 2) (m_max h)

-- 01, Extend: "the lowest start of c free blocks in a row".
unfoldable pub run_start : List ℕ → ℕ → ℕ
run_start image c = lowest_start (storage_map image) (blocks image) c

-- 01, Answer numbers: "26 RUN | no c free blocks in a row".
unfoldable pub has_run : List ℕ → ℕ → Bool
has_run image c = ltb (run_start image c) (starts (blocks image) c)

-- 01, Answer numbers: "6 to 12; then by number", of which extend has 22 to 26. What extend asks of a volume that is judged.
unfoldable pub extend_tests : List ℕ → FileId → ℕ → Outcome
extend_tests image id c =
    open_file image id
    then unless (not (is_known_number id.number)) refusal.Known
    then unless (not (is_fixed (header image id.number))) refusal.Fixed
    then unless (is_count c) refusal.Count
    then unless (has_room (header image (last_number image id.number))) refusal.Full
    then unless (has_run image c) refusal.Run

-- 01, Answer numbers: "1 to 5; 16; 17 to 21 where judged", and then these. The work areas have lengths b and h.
unfoldable pub extend_outcome : List ℕ → FileId → ℕ → ℕ → ℕ → Outcome
extend_outcome image id c b h = verdict image b h then extend_tests image id c

-- The answer of extend. 01, Answer numbers: DONE has as value the "first new LBN (extend)".
unfoldable pub extend_answer : List ℕ → FileId → ℕ → ℕ → ℕ → Answer Lbn
extend_answer image id c b h = lbn_answer (extend_outcome image id c b h) (run_start image c)

-- The image with the c blocks from LBN s on taken, and then a pointer to them in the header of number n. 02, 11/14: "extend writes storage map, .. then
-- the .. extended header".
unfoldable pub with_blocks : List ℕ → ℕ → ℕ → ℕ → List ℕ
with_blocks image n s c =
    put_block (put_map_bits image (base image) (map_blocks (blocks image)) (numbers_from s c) taken_bit) (slot image n) (extended_header (header image n) s c)

-- The image after extend. 00, 1: "A refused call changes no byte of the image".
unfoldable pub extend_image : List ℕ → FileId → ℕ → ℕ → ℕ → List ℕ
extend_image image id c b h =
    afterwards (extend_outcome image id c b h) image (with_blocks image (last_number image id.number) (run_start image c) c)
