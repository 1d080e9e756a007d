-- BADHOME: what the verdict asks of the home positions below the home.
use Rattle.std.specs.Prelude.{Bool, not, List, ℕ, eqb}
use Rattle.lists.specs.First.{first}
use Rattle.answer.specs.declared.refusal.Refusal.TheVariants as refusal
use Rattle.answer.specs.Outcome.{unless, Outcome}
use Rattle.home.specs.Home.{position, home_index}
use Rattle.chains.specs.Chains.{file_blocks}
use Rattle.lists.specs.Counts.{count}
use Rattle.marks.specs.Marks.{marked_twice}

-- 01, The verdict: "BADHOME: a home position below the home, not covered by a header of file 3." Position i, from 0, is none of these LBNs.
unfoldable pub left_out : List ℕ → ℕ → Bool
left_out lbns i = eqb (count (position i) lbns) 0

-- 01, Demand 3: "it belongs to the bad block file where a header of file 3's chain covers it". Which position is the lowest offender, from 0; that of
-- the home where there is none.
unfoldable pub bad_home_index : List ℕ → ℕ
bad_home_index image = first (left_out (file_blocks image 3)) 0 (home_index image)

unfoldable pub bad_home : List ℕ → Outcome
bad_home image = unless (eqb (bad_home_index image) (home_index image)) (refusal.Badhome (position (bad_home_index image)))

-- The mark of position i is not 2.
unfoldable pub unmarked : List ℕ → ℕ → Bool
unmarked area i = not (marked_twice area (position i))
