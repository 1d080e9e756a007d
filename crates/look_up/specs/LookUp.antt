-- Looking a name up, and a walk's next record.
use Rattle.look_up.specs.declared.Step.{Step}
use Rattle.std.specs.Prelude.{List, ℕ, ◌+◌, ltb, Ok, Err}
use Rattle.answer.specs.declared.types.FileId.{FileId}
use Rattle.answer.specs.declared.types.Name.{Name}
use Rattle.answer.specs.declared.refusal.Refusal.TheVariants as refusal
use Rattle.answer.specs.Outcome.{unless, ◌then◌, Outcome, Answer}
use Rattle.answer.specs.Answers.{answer_of}
use Rattle.names.specs.Names.{proper}
use Rattle.records.specs.declared.Entry.{Entry}
use Rattle.records.specs.declared.Wanted.TheVariants.{Any, Named}
use Rattle.open_file.specs.Opening.{open_file}
use Rattle.directory.specs.Search.{record_count, first_wanted, entry_of_file}

-- 01, Answer numbers: "Look-up tests 14 after 12", "15 ABSENT | no equal record".
unfoldable pub find_name : List ℕ → FileId → Name → Outcome
find_name image id name =
    open_file image id
    then unless (proper name) refusal.Name
    then unless (ltb (first_wanted image id.number (Named name) 0) (record_count image id.number)) refusal.Absent

-- 01, Names and directories: "Look-up gives the ID of the first equal record not empty, in VBN order, as stored, opened or not."
unfoldable pub look_up_answer : List ℕ → FileId → Name → Answer FileId
look_up_answer image id name = answer_of (find_name image id name) (entry_of_file image id.number (first_wanted image id.number (Named name) 0)).id

-- 01, Names and directories, of the walker: "opening one answers as opening its file does, and if refused it is there at once", past the last
-- record. So a step in a file that does not open is ABSENT.
unfoldable pub or_absent : Outcome → Outcome
or_absent (Ok tt) = Ok tt
or_absent (Err r) = Err refusal.Absent

-- 01, Names and directories, of the walker: "after the last it answers ABSENT and stays there".
unfoldable pub find_next : List ℕ → FileId → ℕ → Outcome
find_next image id place =
    or_absent (open_file image id)
    then unless (ltb (first_wanted image id.number Any place) (record_count image id.number)) refusal.Absent

abbrev pub next_record_by : Outcome → Entry → ℕ → Answer Step
next_record_by o e next = answer_of o (record { entry = e; next = next })

-- 01, Names and directories: "Each step answers the next record that is not empty". The entry, and the place to go on from.
unfoldable pub next_record_answer : List ℕ → FileId → ℕ → Answer Step
next_record_answer image id place =
    let r = first_wanted image id.number Any place in
    next_record_by (find_next image id place) (entry_of_file image id.number r) (r + 1)
