-- The verdict: its answer, and what it leaves in the two work areas.
use Rattle.std.specs.Prelude.{Bool, ◌&&◌, List, ℕ, leb, length, Ok, Err}
use Rattle.answer.specs.declared.refusal.Refusal.TheVariants as refusal
use Rattle.answer.specs.Outcome.{unless, ◌then◌, Outcome, Answer}
use Rattle.answer.specs.Answers.{answer_of}
use Rattle.home.specs.Home.{blocks}
use Rattle.volume.specs.Volume.{fmax, in_use, storage_map, map_bits}
use Rattle.volume.specs.Opening.{open_volume}
use Rattle.lists.specs.Counts.{count, how_many}
use Rattle.marks.specs.Marks.{tallied}
use Rattle.image.specs.Bits.{is_set}
use Rattle.files.specs.Files.{files}
use Rattle.links.specs.Links.{linked, links}
use Rattle.covers.specs.Covered.{covered, twice, bad_map}
use Rattle.bad_home.specs.Homes.{bad_home}
use Rattle.verdict.specs.declared.Counts.{Counts}

-- 01, The verdict: "Two lent work areas, N and H.FMAX bytes or more." Areas of these lengths are long enough.
unfoldable pub roomy : List ℕ → ℕ → ℕ → Bool
roomy image b h = leb (blocks image) b && leb (fmax image) h

-- 01, Answer numbers: "1 to 5; 16", with "16 WORK | a work area too short". The areas for block marks and header marks have lengths b and h.
unfoldable pub ready : List ℕ → ℕ → ℕ → Outcome
ready image b h = open_volume image then unless (roomy image b h) refusal.Work

-- 01, The verdict: "Judged in this order".
unfoldable pub verdict : List ℕ → ℕ → ℕ → Outcome
verdict image b h = ready image b h then files image then links image then twice image then bad_home image then bad_map image

-- A work area after a row of tests: new where they are passed, as it was where they are not.
unfoldable pub afterwards : Outcome → List ℕ → List ℕ → List ℕ
afterwards (Ok tt) old new = new
afterwards (Err r) old new = old

-- 01, The verdict: "After FILES passes, header mark n−1 is the number of headers in use whose M.EFNU is n, capped at 2"; "Marks not reached, and bytes
-- beyond, are unchanged." What the area for header marks holds after the verdict.
unfoldable pub header_marks : List ℕ → List ℕ → List ℕ → List ℕ
header_marks image area headers =
    afterwards (ready image (length area) (length headers) then files image) headers (tallied (linked image) 1 (fmax image) headers)

-- 01, The verdict: "after LINKS passes, block mark j is the times j is covered, capped at 2." What the area for block marks holds after the verdict.
unfoldable pub block_marks : List ℕ → List ℕ → List ℕ → List ℕ
block_marks image area headers =
    afterwards (ready image (length area) (length headers) then files image then links image) area (tallied (covered image) 0 (blocks image) area)

-- LBN j is covered. 01, What would not satisfy us: "claimed counts the covered LBNs".
unfoldable pub is_covered : List ℕ → ℕ → Bool
is_covered lbns j = leb 1 (count j lbns)

unfoldable pub claimed : List ℕ → ℕ
claimed image = how_many (is_covered (covered image)) 0 (blocks image)

-- 01, What would not satisfy us: "free the set bits". 01, Volume V: "free bits".
unfoldable pub free : List ℕ → ℕ
free image = how_many (is_set (storage_map image)) 0 (map_bits (blocks image))

-- 01, Volume V: "index bits in use".
unfoldable pub headers_in_use : List ℕ → ℕ
headers_in_use image = how_many (in_use image) 1 (fmax image)

-- 01, Answer numbers: DONE has as value "the verdict's four counts". 01, Volume V: "counts of blocks, covered blocks, free bits and index bits in use".
unfoldable pub counts_of : List ℕ → Counts
counts_of image = record { blocks = blocks image; claimed = claimed image; free = free image; headers = headers_in_use image }

-- The answer of the verdict.
unfoldable pub judge_answer : List ℕ → List ℕ → List ℕ → Answer Counts
judge_answer image area headers = answer_of (verdict image (length area) (length headers)) (counts_of image)
