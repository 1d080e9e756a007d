-- What an extent tells of the file's blocks, in the words of mapping.
use Rattle.std.specs.Prelude.{◌≡◌, List, ℕ, ◌+◌, ◌<◌, Ok, Err}
use Rattle.answer.specs.declared.types.FileId.{FileId}
use Rattle.answer.specs.declared.types.Run.{Run}
use Rattle.answer.specs.declared.refusal.Refusal.{Refusal}
use Rattle.mapping.specs.Mapping.{map_answer}
use Rattle.extents.specs.Extents.{extent_answer}

-- On every image, for every ID and VBN: an extent of c blocks from an LBN on has a block at least, VBN + i maps to the LBN plus i for each i below c,
-- and VBN + c does not map to the LBN plus c. Where an extent is refused, so is mapping, and by the same refusal.
pub record ExtentsMap : Type 0 where
  pub some : (image : List ℕ) (id : FileId) (vbn : ℕ) (run : Run) → extent_answer image id vbn ≡ Ok run → 0 < run.count
  pub each : (image : List ℕ) (id : FileId) (vbn : ℕ) (run : Run) (i : ℕ) → extent_answer image id vbn ≡ Ok run → i < run.count
      → map_answer image id (vbn + i) ≡ Ok (record { 0 = run.lbn.0 + i })
  pub most : (image : List ℕ) (id : FileId) (vbn : ℕ) (run : Run) → extent_answer image id vbn ≡ Ok run
      → map_answer image id (vbn + run.count) ≡ Ok (record { 0 = run.lbn.0 + run.count }) → ⊥
  pub refused : (image : List ℕ) (id : FileId) (vbn : ℕ) (r : Refusal) → extent_answer image id vbn ≡ Err r
      → map_answer image id vbn ≡ Err r
