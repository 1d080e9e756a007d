-- Laws of looking a name up and of a walk's next record: what the answer is in each case.
use Rattle.std.specs.Prelude.{Ok, Err}
use mathlib.Core.Path.{◌≡◌}
use mathlib.Core.Bool.{true, false}
use mathlib.Core.List.{List}
use Prim.Native.Nat.{ℕ, ◌+◌, ◌≤◌, ◌<◌}
use borrow.Author.Tests.{lt-ltb, le-ltb}
use Rattle.lists.proofs.FirstLaws.{first-none}
use Rattle.answer.specs.declared.types.FileId.{FileId}
use Rattle.answer.specs.declared.types.Name.{Name}
use Rattle.answer.specs.declared.refusal.Refusal.{Refusal}
use Rattle.answer.specs.declared.refusal.Refusal.TheVariants as refusal
use Rattle.answer.specs.Outcome.{unless, ◌then◌}
use Rattle.answer.specs.Answers.{answer_of}
use Rattle.names.specs.Names.{proper}
use Rattle.records.specs.declared.Wanted.{Wanted}
use Rattle.records.specs.declared.Wanted.TheVariants.{Any, Named}
use Rattle.volume.specs.Volume.{volume_of, places_of}
use Rattle.volume.specs.declared.Volume.{Volume}
use Rattle.chains.specs.Chains.{file_blocks}
use Rattle.open_file.specs.Opening.{open_file}
use Rattle.open_file.proofs.OpeningLaws.{opened}
use Rattle.directory.specs.Search.{wanted_at, record_count, search_in, FileOpen, first_wanted, entry_of_file}
use Rattle.directory.proofs.SearchLaws.{search-all, records-inside}
use Rattle.look_up.specs.LookUp.{find_name, look_up_answer, or_absent, find_next, next_record_answer}

-- What opening a file gives to those who read it: the file is open, and each of its blocks lies in the image.
pub opened-file : (image : List ℕ) (v : Volume) (at : List ℕ) (id : FileId) → open_file image id ≡ Ok tt → v ≡ volume_of image → at ≡ places_of image
    → FileOpen image v at id.number
opened-file image v at id e is lie =
    let o = opened image id e in
    ((o.volume, is, lie), o.found.first, o.chain)

-- The first record wanted is what a search of the file's records finds.
pub search-wanted :
    (image : List ℕ) (n : ℕ) (w : Wanted) (place count r : ℕ) → count ≡ record_count image n → r ≡ search_in image (file_blocks image n) w place count
    → r ≡ first_wanted image n w place
unfolding first_wanted
search-wanted image n w place count r e found =
    rw (found, e) (search-all image (file_blocks image n) w place (record_count image n) (records-inside image n))

-- There is none from a place on that lies past the last record.
pub wanted-past : (image : List ℕ) (n : ℕ) (w : Wanted) (place : ℕ) → record_count image n ≤ place → first_wanted image n w place ≡ place
unfolding first_wanted
wanted-past image n w place h = first-none (wanted_at image (file_blocks image n) w) place (record_count image n) h

module _ (image : List ℕ) (id : FileId) (name : Name) where
  pub look-refused : (r : Refusal) → open_file image id ≡ Err r → look_up_answer image id name ≡ Err r
  unfolding look_up_answer find_name answer_of ◌then◌
  look-refused r e = rw e

  module _ (opened : open_file image id ≡ Ok tt) where
    pub look-improper : proper name ≡ false → look_up_answer image id name ≡ Err refusal.Name
    unfolding look_up_answer find_name answer_of ◌then◌ unless
    look-improper e = rw (opened, e)

    module _ (good : proper name ≡ true) where
      pub look-absent : record_count image id.number ≤ first_wanted image id.number (Named name) 0 → look_up_answer image id name ≡ Err refusal.Absent
      unfolding look_up_answer find_name answer_of ◌then◌ unless
      look-absent h = rw (opened, good, le-ltb (first_wanted image id.number (Named name) 0) (record_count image id.number) h)

      pub look-found :
          (r : ℕ) → r ≡ first_wanted image id.number (Named name) 0 → r < record_count image id.number
          → look_up_answer image id name ≡ Ok (entry_of_file image id.number r).id
      unfolding look_up_answer find_name answer_of ◌then◌ unless
      look-found r e h = rw (opened, good, ← e, lt-ltb r (record_count image id.number) h)

module _ (image : List ℕ) (id : FileId) (place : ℕ) where
  pub next-refused : (r : Refusal) → open_file image id ≡ Err r → next_record_answer image id place ≡ Err refusal.Absent
  unfolding next_record_answer find_next or_absent answer_of ◌then◌
  next-refused r e = rw e

  module _ (opened : open_file image id ≡ Ok tt) where
    pub next-absent : record_count image id.number ≤ first_wanted image id.number Any place → next_record_answer image id place ≡ Err refusal.Absent
    unfolding next_record_answer find_next or_absent answer_of ◌then◌ unless
    next-absent h = rw (opened, le-ltb (first_wanted image id.number Any place) (record_count image id.number) h)

    pub next-found :
        (r : ℕ) → r ≡ first_wanted image id.number Any place → r < record_count image id.number
        → next_record_answer image id place ≡ Ok (record { entry = entry_of_file image id.number r; next = r + 1 })
    unfolding next_record_answer find_next or_absent answer_of ◌then◌ unless
    next-found r e h = rw (opened, ← e, lt-ltb r (record_count image id.number) h)
