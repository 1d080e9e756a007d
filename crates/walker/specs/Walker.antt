-- A walk over the records of a directory: where a step moves it, what it answers, and what it comes to.
use Rattle.look_up.specs.declared.Step.{Step}
use Rattle.answer.specs.Outcome.{Answer}
use Rattle.std.specs.Prelude.{◌≡◌, true, false, List, [], ◌∷◌, ℕ, zero, suc, ◌+◌, ◌≤◌, ◌<◌, Ok, Err}
use Rattle.answer.specs.declared.types.FileId.{FileId}
use Rattle.answer.specs.declared.refusal.Refusal.{Refusal}
use Rattle.answer.specs.declared.refusal.Refusal.TheVariants.{Absent}
use Rattle.open_file.specs.Opening.{open_file}
use Rattle.records.specs.Records.{is_empty}
use Rattle.records.specs.declared.Entry.{Entry}
use Rattle.directory.specs.Search.{record_count, entry_of_file, filled_from}
use Rattle.look_up.specs.LookUp.{next_record_answer}

-- 01, Names and directories, of the walker: "after the last it answers ABSENT and stays there". The place that a walk goes on from after a step
-- from a place.
unfoldable pub place_after : Answer Step → ℕ → ℕ
place_after (Ok step) place = step.next
place_after (Err r) place = place

-- 01, Names and directories: "Each step answers the next record that is not empty". A step from a place answers record at: it is not empty, each
-- record between is, and the place to go on from is the one behind it.
pub record Answers (image : List ℕ) (id : FileId) (place : ℕ) (e : Entry) (next : ℕ) : Type 0 where
  pub at : ℕ
  pub onward : place ≤ at
  pub inside : at < record_count image id.number
  pub behind : next ≡ at + 1
  pub entry : e ≡ entry_of_file image id.number at
  pub filled : is_empty e ≡ false
  pub between : (i : ℕ) → place ≤ i → i < at → is_empty (entry_of_file image id.number i) ≡ true

-- What the answer of a step from a place tells; where it is a refusal, that is ABSENT, and "after the last": in a file that opens each record
-- from the place on is empty.
abbrev pub Told : List ℕ → FileId → ℕ → Answer Step → Type 0
Told image id place (Ok step) = Answers image id place step.entry step.next
Told image id place (Err r) =
    (r ≡ Absent)
    × (open_file image id ≡ Ok tt → (i : ℕ) → place ≤ i → i < record_count image id.number → is_empty (entry_of_file image id.number i) ≡ true)

-- What the answer of a step adds to those before it.
unfoldable pub answered : Answer Step → List Entry → List Entry
answered (Ok step) es = step.entry ∷ es
answered (Err r) es = es

-- The entries that n steps of a walk answer, from a place on.
unfoldable pub walked : List ℕ → FileId → ℕ → ℕ → List Entry
walked image id zero place = []
walked image id (suc n) place =
    let s = next_record_answer image id place in
    answered s (walked image id n (place_after s place))

-- 01, Names and directories, of the walker, sentence by sentence, on every image, for every ID and from every place.
pub record Walks : Type 0 where
  -- "Each step answers the next record that is not empty".
  pub step : (image : List ℕ) (id : FileId) (place : ℕ) → Told image id place (next_record_answer image id place)
  -- A step that is DONE goes on.
  pub onward : (image : List ℕ) (id : FileId) (place : ℕ) (step : Step) → next_record_answer image id place ≡ Ok step → place < step.next
  -- "after the last it answers ABSENT and stays there": the place is the same, and so is the next answer.
  pub stays : (image : List ℕ) (id : FileId) (place : ℕ) (r : Refusal) → next_record_answer image id place ≡ Err r
      → (place_after (next_record_answer image id place) place ≡ place)
      × (next_record_answer image id (place_after (next_record_answer image id place) place) ≡ Err Absent)
  -- "opening one answers as opening its file does, and if refused it is there at once", whatever the place.
  pub at_once : (image : List ℕ) (id : FileId) (place : ℕ) (r : Refusal) → open_file image id ≡ Err r → next_record_answer image id place ≡ Err Absent
  -- A walk from the first record on, of as many steps as there are records or more, answers all that are not empty, in order, and no other.
  pub all : (image : List ℕ) (id : FileId) (n : ℕ) → open_file image id ≡ Ok tt → record_count image id.number ≤ n
      → walked image id n 0 ≡ filled_from image id.number 0 (record_count image id.number)
