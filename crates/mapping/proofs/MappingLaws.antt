-- Laws of mapping a VBN: what it answers by the first test that is not met.
use Rattle.std.specs.Prelude.{Ok, Err}
use mathlib.Core.Path.{◌≡◌}
use mathlib.Core.List.{List}
use Prim.Native.Nat.{ℕ, ◌-◌, ◌≤◌, ◌<◌}
use native.Mathlib.Omega.{arith}
use borrow.Author.Tests.{le-leb, lt-leb}
use lib.ListN.{length, get_or}
use Rattle.answer.specs.declared.types.FileId.{FileId}
use Rattle.answer.specs.declared.types.Lbn.{Lbn}
use Rattle.answer.specs.declared.refusal.Refusal.{Refusal}
use Rattle.answer.specs.declared.refusal.Refusal.TheVariants as refusal
use Rattle.answer.specs.Outcome.{unless, ◌then◌}
use Rattle.answer.specs.Answers.{answer_of}
use Rattle.chains.specs.Chains.{file_blocks}
use Rattle.open_file.specs.Opening.{open_file}
use Rattle.mapping.specs.Mapping.{has_vbn, lbn_of, find_vbn, map_answer}

module _ (image : List ℕ) (id : FileId) (vbn : ℕ) where
  pub map-refused : (r : Refusal) → open_file image id ≡ Err r → map_answer image id vbn ≡ Err r
  unfolding map_answer answer_of find_vbn ◌then◌
  map-refused r e = rw e

  module _ (e : open_file image id ≡ Ok tt) where
    pub map-done : (lbn : Lbn) → 1 ≤ vbn → vbn ≤ length (file_blocks image id.number) → lbn.0 ≡ get_or (file_blocks image id.number) (vbn - 1) 0
        → map_answer image id vbn ≡ Ok lbn
    unfolding map_answer answer_of find_vbn has_vbn lbn_of unless ◌then◌
    map-done lbn low h l = rw (e, le-leb 1 vbn low, le-leb vbn (length (file_blocks image id.number)) h, ← l)
