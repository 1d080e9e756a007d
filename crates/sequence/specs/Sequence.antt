-- The claim that the product stands for: an ID with another sequence number than the header's reads nothing.
-- Demand 2: "A call that opens, reads or changes a file by an ID whose sequence number is not the header's is refused."
use Rattle.std.specs.Prelude.{◌≡◌, List, ℕ, get_or}
use Rattle.answer.specs.declared.types.FileId.{FileId}
use Rattle.answer.specs.declared.types.Name.{Name}
use Rattle.header.specs.Fields.{h_fseq}
use Rattle.volume.specs.Volume.{header}
use Rattle.open_file.specs.Opening.{open_file_answer}
use Rattle.mapping.specs.Mapping.{map_answer}
use Rattle.look_up.specs.LookUp.{look_up_answer, next_record_answer}
use Rattle.file_facts.specs.Files.{attributes_answer}
use Rattle.extents.specs.Extents.{extent_answer}
use Rattle.update.specs.Extend.{extend_answer}
use Rattle.update.specs.Delete.{delete_answer}
use Rattle.answer_words.specs.Words.{lbn_words, id_words, run_words, count_words, bare_words}
use Rattle.file_words.specs.Words.{block_words, attributes_words}
use Rattle.directory_words.specs.Words.{next_record_words}

-- The sequence number of the ID is not H.FSEQ of the header in the slot of its number.
abbrev pub OtherSequence : List ℕ → FileId → Type 0
OtherSequence image id = h_fseq (header image id.number) ≡ id.sequence → ⊥

-- The first word of an answer is its number, and 0 is DONE.
abbrev pub IsRefused : List ℕ → Type 0
IsRefused words = get_or words 0 0 ≡ 0 → ⊥

-- On every image, each exported call that reads or changes a file by such an ID is refused. The work areas have lengths b and h.
pub record SequenceAsked : Type 0 where
  pub open-file : (image : List ℕ) (id : FileId) → OtherSequence image id → IsRefused (count_words (open_file_answer image id))
  pub map : (image : List ℕ) (id : FileId) (vbn : ℕ) → OtherSequence image id → IsRefused (lbn_words (map_answer image id vbn))
  pub block : (image : List ℕ) (id : FileId) (vbn : ℕ) → OtherSequence image id → IsRefused (block_words (map_answer image id vbn))
  pub look_up : (image : List ℕ) (id : FileId) (name : Name) → OtherSequence image id → IsRefused (id_words (look_up_answer image id name))
  pub next-record : (image : List ℕ) (id : FileId) (place : ℕ) → OtherSequence image id → IsRefused (next_record_words (next_record_answer image id place))
  pub attributes : (image : List ℕ) (id : FileId) → OtherSequence image id → IsRefused (attributes_words (attributes_answer image id))
  pub extent : (image : List ℕ) (id : FileId) (vbn : ℕ) → OtherSequence image id → IsRefused (run_words (extent_answer image id vbn))
  pub extend : (image : List ℕ) (id : FileId) (count b h : ℕ) → OtherSequence image id → IsRefused (lbn_words (extend_answer image id count b h))
  pub delete : (image : List ℕ) (id : FileId) (b h : ℕ) → OtherSequence image id → IsRefused (bare_words (delete_answer image id b h))
