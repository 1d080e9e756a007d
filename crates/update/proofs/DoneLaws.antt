-- A call that meets each test is DONE and changes the image; one that does not changes nothing.
use Rattle.std.specs.Prelude.{Ok, Err}
use mathlib.Core.Path.{◌≡◌, sym, ◌∙◌}
use mathlib.Core.Bool.{Bool, true, not}
use mathlib.Core.List.{List}
use Prim.Native.Nat.{ℕ, ◌≤◌, ◌<◌}
use native.Mathlib.Omega.{arith}
use borrow.Author.Tests.{le-leb}
use Rattle.answer.specs.declared.types.FileId.{FileId}
use Rattle.answer.specs.declared.types.Name.{Name}
use Rattle.answer.specs.declared.refusal.Refusal.{Refusal}
use Rattle.answer.specs.declared.refusal.Refusal.TheVariants as refusal
use Rattle.answer.specs.Outcome.{unless, ◌then◌, Outcome}
use Rattle.answer.proofs.OutcomeLaws.{then-passed}
use Rattle.names.specs.Names.{proper}
use Rattle.header.specs.Fields.{h_fseq}
use Rattle.home.specs.Home.{blocks}
use Rattle.volume.specs.Volume.{fmax, header}
use Rattle.volume.proofs.VolumeLaws.{opens-all}
use Rattle.chains.specs.Chains.{chain_of, last_number}
use Rattle.open_file.specs.Opening.{open_file}
use Rattle.verdict.specs.Verdict.{verdict, afterwards}
use Rattle.sound.proofs.ExactLaws.{verdict-judges}
use Rattle.spare_number.specs.SpareNumber.{spare_number}
use Rattle.update.specs.Create.{create_tests, create_outcome, with_file, create_image, new_sequence}
use Rattle.update.specs.Extend.{is_known_number, is_count, has_room, run_start, has_run, extend_tests, extend_outcome, with_blocks, extend_image}
use Rattle.header.specs.Flags.{is_fixed}
use Rattle.update.specs.Delete.{delete_tests, delete_outcome, without_numbers, delete_image}
use Rattle.update.proofs.Effects.{Good}

-- A test that is met.
met : (t : Bool) (r : Refusal) → t ≡ true → unless t r ≡ Ok tt
unfolding unless
met t r e = rw e

-- The verdict passes a good image, with work areas that are long enough.
module _ (image : List ℕ) (g : Good image) (b h : ℕ) (room : blocks image ≤ b) (rest : fmax image ≤ h) where
  judged : verdict image b h ≡ Ok tt
  judged = (verdict-judges image b h room rest).holds (opens-all image g.opens, g.sound)

  pub create-done : (name : Name) → proper name ≡ true → spare_number image ≤ fmax image → create_outcome image name b h ≡ Ok tt
  unfolding create_outcome create_tests
  create-done name named found =
      then-passed (verdict image b h) _ judged ∙ then-passed _ _ (met (proper name) refusal.Name named)
      ∙ met _ refusal.Nonumber (le-leb (spare_number image) _ (omega (arith, found)))

  pub extend-done : (id : FileId) (c : ℕ) → open_file image id ≡ Ok tt → not (is_known_number id.number) ≡ true → not (is_fixed (header image id.number)) ≡ true
      → is_count c ≡ true → has_room (header image (last_number image id.number)) ≡ true → has_run image c ≡ true → extend_outcome image id c b h ≡ Ok tt
  unfolding extend_outcome extend_tests unless ◌then◌
  extend-done id c opened unknown loose counted room run = rw (judged, opened, unknown, loose, counted, room, run)

  pub delete-done : (id : FileId) → open_file image id ≡ Ok tt → not (is_known_number id.number) ≡ true → delete_outcome image id b h ≡ Ok tt
  unfolding delete_outcome delete_tests unless ◌then◌
  delete-done id opened unknown = rw (judged, opened, unknown)

-- The sequence of a new file is above the last one of its number.
pub sequence-above : (image : List ℕ) (n : ℕ) → h_fseq (header image n) < new_sequence image n
unfolding new_sequence
sequence-above image n = omega arith

-- What a row of tests leaves of two images: the old one where it refuses, the new one where it is passed.
pub image-refused : (o : Outcome) (r : Refusal) (old new : List ℕ) → o ≡ Err r → old ≡ afterwards o old new
unfolding afterwards
image-refused o r old new e = rw e

pub image-done : (o : Outcome) (old new : List ℕ) → o ≡ Ok tt → new ≡ afterwards o old new
unfolding afterwards
image-done o old new e = rw e

-- The image after each call.
module _ (image : List ℕ) (name : Name) (owner protection b h : ℕ) where
  pub create-passes : create_outcome image name b h ≡ Ok tt → create_image image name owner protection b h ≡ with_file image name owner protection
  unfolding create_image
  create-passes e = sym (image-done (create_outcome image name b h) image (with_file image name owner protection) e)

  pub create-refused : (r : Refusal) → create_outcome image name b h ≡ Err r → create_image image name owner protection b h ≡ image
  unfolding create_image
  create-refused r e = sym (image-refused (create_outcome image name b h) r image (with_file image name owner protection) e)

module _ (image : List ℕ) (id : FileId) (c b h : ℕ) where
  pub extend-passes : extend_outcome image id c b h ≡ Ok tt
      → extend_image image id c b h ≡ with_blocks image (last_number image id.number) (run_start image c) c
  unfolding extend_image
  extend-passes e = sym (image-done (extend_outcome image id c b h) image (with_blocks image (last_number image id.number) (run_start image c) c) e)

  pub extend-refused : (r : Refusal) → extend_outcome image id c b h ≡ Err r → extend_image image id c b h ≡ image
  unfolding extend_image
  extend-refused r e = sym (image-refused (extend_outcome image id c b h) r image (with_blocks image (last_number image id.number) (run_start image c) c) e)

module _ (image : List ℕ) (id : FileId) (b h : ℕ) where
  pub delete-passes : delete_outcome image id b h ≡ Ok tt → delete_image image id b h ≡ without_numbers image (chain_of image id.number)
  unfolding delete_image
  delete-passes e = sym (image-done (delete_outcome image id b h) image (without_numbers image (chain_of image id.number)) e)

  pub delete-refused : (r : Refusal) → delete_outcome image id b h ≡ Err r → delete_image image id b h ≡ image
  unfolding delete_image
  delete-refused r e = sym (image-refused (delete_outcome image id b h) r image (without_numbers image (chain_of image id.number)) e)
