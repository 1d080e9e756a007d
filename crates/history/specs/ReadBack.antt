-- What is read back after a call.
use Rattle.std.specs.Prelude.{◌≡◌, true, false, List, ◌++◌, ℕ, ◌+◌, length, Ok, Err}
use Rattle.image.specs.Words.{Bytes}
use Rattle.lists.specs.Lists.{numbers_from}
use Rattle.answer.specs.declared.types.FileId.{FileId}
use Rattle.answer.specs.declared.types.Lbn.{Lbn}
use Rattle.answer.specs.declared.types.Name.{Name}
use Rattle.answer.specs.declared.refusal.Refusal.TheVariants as refusal
use Rattle.volume.specs.Volume.{in_use}
use Rattle.chains.specs.Chains.{file_blocks}
use Rattle.open_file.specs.Opening.{open_file, open_file_answer}
use Rattle.update.specs.Create.{create_answer, create_image}
use Rattle.update.specs.Extend.{extend_answer, extend_image}
use Rattle.update.specs.Delete.{delete_answer, delete_image}
use Rattle.history.specs.Calls.{Call, create, image_after, Words, Each}
use Rattle.history.specs.Claims.{Accepted}

-- After a create that is DONE its ID opens a file of no blocks.
abbrev pub AfterCreate : List ℕ → Type 0
AfterCreate image =
    (name : Name) (owner protection : ℕ) (area headers : List ℕ) → Words (create name owner protection area headers)
    → (id : FileId) → create_answer image name (length area) (length headers) ≡ Ok id
    → open_file_answer (create_image image name owner protection (length area) (length headers)) id ≡ Ok 0

-- After an extend that is DONE the file opens, and its blocks are those that it had and then the c new ones.
abbrev pub AfterExtend : List ℕ → Type 0
AfterExtend image =
    (id : FileId) (c : ℕ) (area headers : List ℕ) (lbn : Lbn) → extend_answer image id c (length area) (length headers) ≡ Ok lbn
    → (open_file_answer (extend_image image id c (length area) (length headers)) id ≡ Ok (length (file_blocks image id.number) + c))
    × (file_blocks (extend_image image id c (length area) (length headers)) id.number ≡ file_blocks image id.number ++ numbers_from lbn.0 c)

-- After a delete that is DONE, and after every list of calls that follows, the ID is refused: as NUMBER while its number is not in use, as SEQUENCE once it
-- is used again.
pub record Gone (image : List ℕ) (id : FileId) : Type 0 where
  pub unused : in_use image id.number ≡ false → open_file image id ≡ Err refusal.Number
  pub again : in_use image id.number ≡ true → open_file image id ≡ Err refusal.Sequence

abbrev pub AfterDelete : List ℕ → Type 0
AfterDelete image =
    (id : FileId) (area headers : List ℕ) → delete_answer image id (length area) (length headers) ≡ Ok tt
    → (in_use (delete_image image id (length area) (length headers)) id.number ≡ false)
    × ((calls : List Call) → Each Words calls → Gone (image_after calls (delete_image image id (length area) (length headers))) id)

-- 00, 2: "Create, extend and delete change just what the rules name, and it reads back by them."
pub record ReadsBack (image : List ℕ) : Type 0 where
  pub create : AfterCreate image
  pub extend : AfterExtend image
  pub delete : AfterDelete image

abbrev pub CallsReadBack : Type 0
CallsReadBack = (image : List ℕ) → Bytes image → Accepted image → ReadsBack image
