-- LINKS: what the verdict asks of the links between headers in use.
use Rattle.std.specs.Prelude.{Bool, cond, not, ◌&&◌, List, [], ◌∷◌, ℕ, ◌+◌, ◌-◌, eqb, leb}
use Rattle.lists.specs.First.{first}
use Rattle.lists.specs.Counts.{count}
use Rattle.answer.specs.declared.refusal.Refusal.TheVariants as refusal
use Rattle.answer.specs.Outcome.{unless, Outcome}
use Rattle.header.specs.Fields.{segment, m_efnu}
use Rattle.volume.specs.Volume.{fmax, header, in_use}
use Rattle.slots.specs.Slots.{gathered}
use Rattle.chains.specs.Chains.{good_link}
use Rattle.marks.specs.Marks.{raised}

-- M.EFNU of a header, as a list.
unfoldable pub link_of : List ℕ → List ℕ
link_of h = m_efnu h ∷ []

-- M.EFNU of each header in use. 01, The verdict: "the number of headers in use whose M.EFNU is n" is how often n stands in this list.
unfoldable pub linked : List ℕ → List ℕ
linked image = gathered image link_of (fmax image)

-- The marks of numbers 1 to k with that of number t raised, if t is one of them. 01, The verdict: "header mark n−1 is the number of headers in use
-- whose M.EFNU is n".
unfoldable pub raised_link : List ℕ → ℕ → ℕ → List ℕ
raised_link area k t = cond (leb 1 t && leb t k) (raised area (t - 1)) area

-- 01, The verdict: "linked by others a number of times that is not 0 (segment 0) or 1 (above 0)". How often a header must be linked.
unfoldable pub links_wanted : List ℕ → ℕ
links_wanted h = cond (eqb (segment h) 0) 0 1

-- 01, The verdict: "LINKS: n in use with a bad link, or linked by others a number of times that is not 0 (segment 0) or 1 (above 0)." The list is
-- that of all M.EFNU. A header that links to itself offends by its bad link, so counting it among the others changes nothing.
unfoldable pub bad_links : List ℕ → List ℕ → ℕ → Bool
bad_links image links n = in_use image n && not (good_link image (header image n) && eqb (count n links) (links_wanted (header image n)))

-- The lowest offender; H.FMAX + 1 where there is none.
unfoldable pub links_place : List ℕ → ℕ
links_place image = first (bad_links image (linked image)) 1 (fmax image)

unfoldable pub links : List ℕ → Outcome
links image = unless (eqb (links_place image) (1 + fmax image)) (refusal.Links (links_place image))
