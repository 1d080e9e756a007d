-- An ID with another sequence number is refused: a file that opens has the sequence number of its ID.
use Rattle.answer.specs.Outcome.{Outcome}
use Rattle.std.specs.Prelude.{Ok, Err}
use mathlib.Core.Path.{◌≡◌, refl}
use mathlib.Core.List.{List}
use Prim.Native.Nat.{ℕ}
use Rattle.answer.specs.declared.types.FileId.{FileId}
use Rattle.answer.specs.declared.types.Name.{Name}
use Rattle.answer.specs.declared.refusal.Refusal.TheVariants as refusal
use Rattle.answer.specs.Answers.{answer_of}
use Rattle.answer.proofs.RefusalLaws.{refused-number}
use Rattle.open_file.specs.Opening.{anyone, open_file_answer}
use Rattle.mapping.specs.Mapping.{map_answer}
use Rattle.open_file.proofs.OpeningLaws.{Refuses, refuses}
use Rattle.mapping.proofs.MappingLaws.{map-refused}
use Rattle.look_up.specs.LookUp.{look_up_answer, next_record_answer}
use Rattle.look_up.proofs.LookUpLaws.{look-refused, next-refused}
use Rattle.file_facts.specs.Files.{attributes_answer}
use Rattle.file_facts.proofs.FileLaws.{attributes-refused}
use Rattle.extents.specs.Extents.{extent_answer}
use Rattle.extents.proofs.ExtentLaws.{extent-refused}
use Rattle.update.specs.Extend.{extend_outcome, extend_answer}
use Rattle.update.specs.Delete.{delete_outcome, delete_answer}
use Rattle.update.proofs.PassedLaws.{extend-passed, delete-passed}
use Rattle.answer_words.specs.Words.{lbn_words, id_words, run_words, count_words, bare_words}
use Rattle.file_words.specs.Words.{block_words, attributes_words}
use Rattle.directory_words.specs.Words.{next_record_words}
use Rattle.sequence.specs.Sequence.{OtherSequence, IsRefused, SequenceAsked}

module _ (image : List ℕ) (id : FileId) (other : OtherSequence image id) where
  abbrev opens : Refuses anyone image id
  opens = refuses anyone image id other

  open-file-asked : IsRefused (count_words (open_file_answer image id))
  unfolding open_file_answer answer_of
  open-file-asked = rw opens.is (refused-number opens.why)

  map-asked : (vbn : ℕ) → IsRefused (lbn_words (map_answer image id vbn))
  map-asked vbn = rw (map-refused image id vbn opens.why opens.is) (refused-number opens.why)

  block-asked : (vbn : ℕ) → IsRefused (block_words (map_answer image id vbn))
  block-asked vbn = rw (map-refused image id vbn opens.why opens.is) (refused-number opens.why)

  look-up-asked : (name : Name) → IsRefused (id_words (look_up_answer image id name))
  look-up-asked name = rw (look-refused image id name opens.why opens.is) (refused-number opens.why)

  next-record-asked : (place : ℕ) → IsRefused (next_record_words (next_record_answer image id place))
  next-record-asked place = rw (next-refused image id place opens.why opens.is) (refused-number refusal.Absent)

  attributes-asked : IsRefused (attributes_words (attributes_answer image id))
  attributes-asked = rw (← attributes-refused image id opens.why opens.is) (refused-number opens.why)

  extent-asked : (vbn : ℕ) → IsRefused (run_words (extent_answer image id vbn))
  extent-asked vbn = rw (extent-refused image id vbn opens.why opens.is) (refused-number opens.why)

  extend-asked : (count b h : ℕ) → IsRefused (lbn_words (extend_answer image id count b h))
  unfolding extend_answer answer_of
  extend-asked count b h = go (extend_outcome image id count b h) refl
    where
      go : (o : Outcome) → extend_outcome image id count b h ≡ o → IsRefused (lbn_words (extend_answer image id count b h))
      go (Ok tt) e = absurd (other (extend-passed image id count b h e).opens.found.sequence)
      go (Err r) e = rw e (refused-number r)

  delete-asked : (b h : ℕ) → IsRefused (bare_words (delete_answer image id b h))
  unfolding delete_answer answer_of
  delete-asked b h = go (delete_outcome image id b h) refl
    where
      go : (o : Outcome) → delete_outcome image id b h ≡ o → IsRefused (bare_words (delete_answer image id b h))
      go (Ok tt) e = absurd (other (delete-passed image id b h e).opens.found.sequence)
      go (Err r) e = rw e (refused-number r)

pub sequence-asked : SequenceAsked
sequence-asked = record {
  open-file = open-file-asked;
  map = λ image id vbn other. map-asked image id other vbn;
  block = λ image id vbn other. block-asked image id other vbn;
  look_up = λ image id name other. look-up-asked image id other name;
  next-record = λ image id place other. next-record-asked image id other place;
  attributes = attributes-asked;
  extent = λ image id vbn other. extent-asked image id other vbn;
  extend = λ image id count b h other. extend-asked image id other count b h;
  delete = λ image id b h other. delete-asked image id other b h;
}
