-- The blocks that headers in use cover; TWICE and MAP.
use Rattle.std.specs.Prelude.{Bool, not, ◌&&◌, List, ℕ, ◌+◌, ◌*◌, ◌≤◌, ◌<◌, eqb, leb, ltb}
use Rattle.lists.specs.First.{first}
use Rattle.lists.specs.Counts.{one_if, count}
use Rattle.image.specs.Bits.{bit_at}
use Rattle.answer.specs.declared.refusal.Refusal.TheVariants as refusal
use Rattle.answer.specs.Outcome.{unless, Outcome}
use Rattle.pointers.specs.Pointers.{pointer_lbn, pointer_count, pointers_at, pointers, blocks_of}
use Rattle.home.specs.Home.{blocks}
use Rattle.volume.specs.Volume.{fmax, storage_map, map_bits}
use Rattle.slots.specs.Slots.{gathered}

-- The LBNs that the headers in use cover, each as often as it is covered. 01, Demand 3: "A block is mapped where it is covered by a pointer of a
-- header in use." The slot of an extension header is a block of file 1 and of no other, so it stands here once.
unfoldable pub covered : List ℕ → List ℕ
covered image = gathered image blocks_of (fmax image)

-- Each pointer of a header ends at or below k.
pub record Ends (k : ℕ) (h : List ℕ) : Type 0 where
  pub each : (p : ℕ) → p < pointers h → pointer_lbn h (pointers_at h + 4 * p) + pointer_count h (pointers_at h + 4 * p) ≤ k

-- 01, The verdict: "TWICE: LBN covered by two places in pointers of headers in use." The list is that of all covered LBNs.
unfoldable pub covered_twice : List ℕ → ℕ → Bool
covered_twice lbns j = leb 2 (count j lbns)

-- The lowest offender; N where there is none.
unfoldable pub twice_place : List ℕ → ℕ
twice_place image = first (covered_twice (covered image)) 0 (blocks image)

unfoldable pub twice : List ℕ → Outcome
twice image = unless (eqb (twice_place image) (blocks image)) (refusal.Twice (twice_place image))

-- 01, The verdict: "MAP: a map bit wrong, its bit number the place: below N set exactly if covered by none, from N on clear." Bit j of this map, with
-- these covered LBNs, on a volume of n blocks.
unfoldable pub wrong_bit : List ℕ → List ℕ → ℕ → ℕ → Bool
wrong_bit map lbns n j = not (eqb (bit_at map j) (one_if (ltb j n && eqb (count j lbns) 0)))

-- The lowest offender; the number of bits where there is none.
unfoldable pub map_place : List ℕ → ℕ
map_place image = first (wrong_bit (storage_map image) (covered image) (blocks image)) 0 (map_bits (blocks image))

unfoldable pub bad_map : List ℕ → Outcome
bad_map image = unless (eqb (map_place image) (map_bits (blocks image))) (refusal.Map (map_place image))
