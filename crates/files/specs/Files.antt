-- FILES: what the verdict asks of each file number. 01, The verdict: "the place is the lowest offender."
use Rattle.std.specs.Prelude.{Bool, cond, not, ◌&&◌, ◌||◌, List, ℕ, ◌+◌, eqb, leb}
use Rattle.lists.specs.First.{first}
use Rattle.answer.specs.declared.refusal.Refusal.TheVariants as refusal
use Rattle.answer.specs.Outcome.{unless, Outcome}
use Rattle.header.specs.Fields.{h_fseq, segment}
use Rattle.volume.specs.Volume.{fmax, has_slot, header, fault_of, in_use, is_number}

-- What a known file must be. 01, Demand 3: "The known files are numbers 1 to 5."
unfoldable pub is_known : List ℕ → ℕ → Bool
is_known image n = in_use image n && eqb (h_fseq (header image n)) n && eqb (segment (header image n)) 0

-- 01, The verdict: "FILES: number n, at most H.FMAX: n ≤ 5 not in use, or with sequence not n or segment not 0; or n in use without slot or not
-- whole."
unfoldable pub bad_file : List ℕ → ℕ → Bool
bad_file image n = (leb n 5 && not (is_known image n)) || (in_use image n && not (has_slot image n && eqb (fault_of image n) 0))

-- 02, 3/14: FILES "puts the test in its value, 0 where n is not in use, has no slot or is whole".
unfoldable pub unmet_of : List ℕ → ℕ → ℕ
unmet_of image n = cond (is_number image n) (fault_of image n) 0

-- The lowest offender; H.FMAX + 1 where there is none.
unfoldable pub files_place : List ℕ → ℕ
files_place image = first (bad_file image) 1 (fmax image)

unfoldable pub files : List ℕ → Outcome
files image = unless (eqb (files_place image) (1 + fmax image)) (refusal.Files (files_place image) (unmet_of image (files_place image)))
