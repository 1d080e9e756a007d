-- Opening a file by its ID: RELVOL, NUMBER, HEADER, SEQUENCE, SEGMENT; LOCKED; CHAIN, in this order.
use Rattle.std.specs.Prelude.{◌≡◌, not, List, ℕ, ◌≤◌, eqb, length, Ok, Err, MatchResult}
use Rattle.answer.specs.declared.types.FileId.{FileId}
use Rattle.answer.specs.declared.refusal.Refusal.TheVariants as refusal
use Rattle.answer.specs.Outcome.{unless, ◌then◌, Outcome, Answer}
use Rattle.answer.specs.Answers.{answer_of}
use Rattle.header.specs.Fields.{h_fseq, segment}
use Rattle.header.specs.Flags.{locked}
use Rattle.volume.specs.Volume.{slot, header, volume_of, places_of}
use Rattle.volume.specs.Opening.{open_volume}
use Rattle.chains.specs.Chains.{good_chain, file_blocks}
use Rattle.chains.specs.Finding.{find_number}
use Rattle.open_file.specs.declared.OpenedOn.{OpenedOn}
use Rattle.open_file.specs.declared.OpenFile.{OpenFile}

-- Finding the header. 01, Answer numbers: "6 RELVOL | third ID word not 0"; NUMBER and HEADER; "9 SEQUENCE | H.FSEQ differs", "10 SEGMENT | segment not
-- 0".
unfoldable pub find : List ℕ → FileId → Outcome
find image id =
    unless (eqb id.volume 0) refusal.Relvol
    then find_number image id.number
    then unless (eqb (h_fseq (header image id.number)) id.sequence) refusal.Sequence
    then unless (eqb (segment (header image id.number)) 0) refusal.Segment

-- 01, Answer numbers: "11 LOCKED | either flag".
unfoldable pub access : List ℕ → FileId → Outcome
access image id = unless (not (locked (header image id.number))) refusal.Locked

-- 01, Answer numbers: "12 CHAIN | a bad link".
unfoldable pub chained : List ℕ → FileId → Outcome
chained image id = unless (good_chain image id.number) refusal.Chain

-- What is asked of a file's first header between SEGMENT and LOCKED. 02, 14/14: "34 DENIED, after SEGMENT and before LOCKED".
abbrev pub Gate : Type 0
Gate = List ℕ → Outcome

-- 02, 14/14: "The calls without a user code stay": nothing is asked there.
unfoldable pub anyone : Gate
anyone h = (Ok tt)

-- Opening a file on an opened volume. 01, Answer numbers: "Order: .. 6 to 12".
unfoldable pub open_on : Gate → List ℕ → FileId → Outcome
open_on gate image id = find image id then gate (header image id.number) then access image id then chained image id

-- Opening a file. 01, Answer numbers: "Order: 1 to 5; .. 6 to 12". Every call that opens a file opens it so.
unfoldable pub open_by : Gate → List ℕ → FileId → Outcome
open_by gate image id = open_volume image then open_on gate image id

abbrev pub open_file : List ℕ → FileId → Outcome
open_file image id = open_by anyone image id

-- What the calls that go on from an opened file are told: the refusal or, where each test is passed, how many blocks the file has and the LBN of its
-- first header. There are never more blocks than 256 headers with 127 pointers of 256 blocks can cover: 8,323,072.
abbrev pub Tells : List ℕ → FileId → Outcome → Answer OpenedOn → Type 0
Tells image id result file =
    MatchResult file
    (λ f.
    (result ≡ Ok tt)
    × (f.blocks ≡ length (file_blocks image id.number))
    × (f.header.0 ≡ slot image id.number)
    × (f.blocks ≤ 8323072))
    (λ r. result ≡ Err r)

-- The same, with the volume record.
abbrev pub TellsPlaces : List ℕ → FileId → Outcome → Answer OpenFile → List ℕ → Type 0
TellsPlaces image id result file at =
    MatchResult file
    (λ f.
    (result ≡ Ok tt)
    × (f.volume ≡ volume_of image)
    × (f.blocks ≡ length (file_blocks image id.number))
    × (f.header.0 ≡ slot image id.number)
    × (f.blocks ≤ 8323072)
    × (at ≡ places_of image))
    (λ r. result ≡ Err r)

-- The answer of opening a file. 01, Answer numbers: DONE has as value the "block count (open file)".
unfoldable pub open_file_answer : List ℕ → FileId → Answer ℕ
open_file_answer image id = answer_of (open_file image id) (length (file_blocks image id.number))
