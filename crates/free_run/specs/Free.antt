-- Runs of free blocks, one after the other.
use Rattle.answer.specs.declared.types.Run.{Run}
use Rattle.std.specs.Prelude.{Bool, List, ℕ, ◌-◌, eqb, ltb}
use Rattle.image.specs.Bits.{bit_at}
use Rattle.lists.specs.First.{first}
use Rattle.answer.specs.declared.refusal.Refusal.TheVariants as refusal
use Rattle.answer.specs.Outcome.{unless, ◌then◌, Outcome, Answer}
use Rattle.answer.specs.Answers.{run_answer}
use Rattle.home.specs.Home.{blocks}
use Rattle.volume.specs.Volume.{storage_map}
use Rattle.volume.specs.Opening.{open_volume}

-- Bit j of a map is b.
unfoldable pub is_bit : List ℕ → ℕ → ℕ → Bool
is_bit map b j = eqb (bit_at map j) b

-- The first place from a place on, below n, at which the bit of a map is b; not below n where there is none.
unfoldable pub next_bit : List ℕ → ℕ → ℕ → ℕ → ℕ
next_bit map n b from = first (is_bit map b) from (n - from)

-- 01, Storage map file: "set means free". The first free block from an LBN on, of the blocks of the volume; not below N where there is none.
unfoldable pub next_free : List ℕ → ℕ → ℕ
next_free image from = next_bit (storage_map image) (blocks image) 1 from

-- The first block from an LBN on that is not free; not below N where there is none.
unfoldable pub next_taken : List ℕ → ℕ → ℕ
next_taken image from = next_bit (storage_map image) (blocks image) 0 from

-- 01, Answer numbers: "1 SIZE, .. | opening, in this order", and ABSENT where no block from there on is free.
unfoldable pub find_free : List ℕ → ℕ → Outcome
find_free image from = open_volume image then unless (ltb (next_free image from) (blocks image)) refusal.Absent

-- The first run of free blocks from an LBN on: the LBN of its first block, and how many blocks it has.
unfoldable pub free_run_answer : List ℕ → ℕ → Answer Run
free_run_answer image from =
    let lbn = next_free image from in
    run_answer (find_free image from) lbn (next_taken image lbn - lbn)
