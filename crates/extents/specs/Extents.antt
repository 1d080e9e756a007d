-- Extents of a file: blocks one after the other in the file that lie one after the other on the volume.
use Rattle.answer.specs.declared.types.Run.{Run}
use Rattle.answer.specs.Outcome.{Answer}
use Rattle.std.specs.Prelude.{List, ℕ, ◌-◌}
use Rattle.answer.specs.declared.types.FileId.{FileId}
use Rattle.answer.specs.Answers.{run_answer}
use Rattle.chains.specs.Chains.{file_blocks}
use Rattle.mapping.specs.Mapping.{lbn_of, find_vbn}
use Rattle.rows.specs.Rows.{row_length}

-- The extent from a VBN on: its LBN, and how many VBNs from there on have LBNs that rise by one. It is refused as mapping the VBN is (01, Answer
-- numbers: 1 to 13).
unfoldable pub extent_answer : List ℕ → FileId → ℕ → Answer Run
extent_answer image id vbn =
    run_answer (find_vbn image id vbn) (lbn_of image id.number vbn) (row_length (file_blocks image id.number) (vbn - 1))
