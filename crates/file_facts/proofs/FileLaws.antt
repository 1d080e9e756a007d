-- Laws of the end of a file, and of what an opened file says.
use Rattle.std.specs.Prelude.{Ok, Err}
use mathlib.Core.Path.{◌≡◌}
use mathlib.Core.List.{List}
use Prim.Native.Nat.{ℕ}
use lib.ListN.{length}
use Rattle.answer.specs.declared.types.FileId.{FileId}
use Rattle.answer.specs.declared.refusal.Refusal.{Refusal}
use Rattle.answer.specs.Answers.{answer_of}
use Rattle.volume.specs.Volume.{header}
use Rattle.chains.specs.Chains.{file_blocks}
use Rattle.open_file.specs.Opening.{open_file}
use Rattle.file_facts.specs.declared.types.Attributes.{Attributes}
use Rattle.file_facts.specs.Files.{attributes_of, attributes_answer}

module _ (image : List ℕ) (id : FileId) where
  pub attributes-refused : (r : Refusal) → open_file image id ≡ Err r → Err r ≡ attributes_answer image id
  unfolding attributes_answer answer_of
  attributes-refused r e = rw e

  pub attributes-done : open_file image id ≡ Ok tt → (f : Attributes) → f ≡ attributes_of (header image id.number) (length (file_blocks image id.number))
      → Ok f ≡ attributes_answer image id
  unfolding attributes_answer answer_of
  attributes-done e f s = rw (e, s)
