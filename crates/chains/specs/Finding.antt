-- Finding the header of a number on an opened volume: NUMBER, HEADER.
use Rattle.std.specs.Prelude.{◌≡◌, List, ℕ, eqb, Ok, Err, MatchResult}
use Rattle.answer.specs.declared.refusal.Refusal.TheVariants as refusal
use Rattle.answer.specs.Outcome.{unless, ◌then◌, Outcome, Answer}
use Rattle.volume.specs.Volume.{fault_of, is_number}
use Rattle.answer.specs.declared.types.Lbn.{Lbn}

-- 01, Answer numbers: "7 NUMBER | 0, above H.FMAX, no slot, not in use"; "8 HEADER | not whole". HEADER carries the first unmet test.
unfoldable pub find_number : List ℕ → ℕ → Outcome
find_number image n = unless (is_number image n) refusal.Number then unless (eqb (fault_of image n) 0) (refusal.Header (fault_of image n))

-- What finding a header comes to: the LBN that the header lies at where its row of tests is passed, else the refusal.
abbrev pub Finds : Outcome → ℕ → Answer Lbn → Type 0
Finds result lbn found = MatchResult found (λ at. (result ≡ Ok tt) × (at.0 ≡ lbn)) (λ r. result ≡ Err r)
