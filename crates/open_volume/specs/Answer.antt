-- The answer of opening a volume, and what the calls that go on from there are told.
use Rattle.answer.specs.declared.types.Lbn.{Lbn}
use Rattle.answer.specs.Outcome.{Answer}
use Rattle.std.specs.Prelude.{◌≡◌, List, ℕ, Ok, Err, MatchResult}
use Rattle.answer.specs.Answers.{lbn_answer}
use Rattle.home.specs.Home.{home}
use Rattle.volume.specs.Volume.{places_of, volume_of}
use Rattle.volume.specs.Opening.{open_volume}
use Rattle.volume.specs.declared.Volume.{Volume}

-- The answer of opening a volume. 01, Answer numbers: DONE has as value "the home LBN (open volume)".
unfoldable pub open_volume_answer : List ℕ → Answer Lbn
open_volume_answer image = lbn_answer (open_volume image) (home image)

-- What opening tells: the refusal or, where each test is passed, the volume record and the places of the index file's headers.
abbrev pub TellsVolume : List ℕ → Answer Volume → List ℕ → Type 0
TellsVolume image o at =
    MatchResult o
    (λ v. (open_volume image ≡ Ok tt) × (v ≡ volume_of image) × (at ≡ places_of image))
    (λ r. open_volume image ≡ Err r)
