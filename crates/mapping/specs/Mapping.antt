-- A file's VBNs: the LBN of one, and its block.
use Rattle.answer.specs.declared.types.Lbn.{Lbn}
use Rattle.std.specs.Prelude.{Bool, ◌&&◌, List, [], ℕ, ◌-◌, leb, length, get_or, Ok, Err}
use Rattle.image.specs.Blocks.{block}
use Rattle.answer.specs.declared.types.FileId.{FileId}
use Rattle.answer.specs.declared.refusal.Refusal.TheVariants as refusal
use Rattle.answer.specs.Outcome.{unless, ◌then◌, Outcome, Answer}
use Rattle.answer.specs.Answers.{lbn_answer}
use Rattle.chains.specs.Chains.{file_blocks}
use Rattle.open_file.specs.Opening.{open_file}

-- 01, The work and its edge: "Virtual block numbers (VBN, from 1)". The file whose first header has number n has this VBN.
unfoldable pub has_vbn : List ℕ → ℕ → ℕ → Bool
has_vbn image n vbn = leb 1 vbn && leb vbn (length (file_blocks image n))

-- The LBN of a VBN.
unfoldable pub lbn_of : List ℕ → ℕ → ℕ → ℕ
lbn_of image n vbn = get_or (file_blocks image n) (vbn - 1) 0

-- 01, Answer numbers: "13 VBN | 0 or beyond the last", after 6 to 12.
unfoldable pub find_vbn : List ℕ → FileId → ℕ → Outcome
find_vbn image id vbn = open_file image id then unless (has_vbn image id.number vbn) refusal.Vbn

-- The answer of mapping a VBN. 01, Answer numbers: DONE has as value the "LBN (map)".
unfoldable pub map_answer : List ℕ → FileId → ℕ → Answer Lbn
map_answer image id vbn = lbn_answer (find_vbn image id vbn) (lbn_of image id.number vbn)

-- 01, Names and directories: "A block is answered as the image's own 512 bytes, not a copy." 01, Answer numbers: a refusal has "an empty part".
unfoldable pub block_of : List ℕ → Answer Lbn → List ℕ
block_of image (Ok lbn) = block image lbn.0
block_of image (Err r) = []
