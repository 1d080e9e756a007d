-- The slots of file numbers, walked in order; and what the headers in use give, one after the other.
use Rattle.std.specs.Prelude.{◌≡◌, cond, List, [], ◌++◌, ℕ, zero, suc, ◌+◌, ◌≤◌, ◌<◌, length, get_or, take}
use Rattle.image.specs.Blocks.{block}
use Rattle.pointers.specs.Pointers.{runs, pointers_at, pointers}
use Rattle.volume.specs.Volume.{ibsz, places, slot, slots, header, in_use}
use Rattle.pointers.specs.Pointers.{flat}
use Rattle.slots.specs.declared.SlotRun.{SlotRun}

-- The blocks from place i, from 0, of a list of LBNs on that lie in a row, and none past the last.
pub record RunOf (lbns : List ℕ) (i : ℕ) (run : SlotRun) : Type 0 where
  pub has : (j : ℕ) → j < run.left → i + j < length lbns
  pub row : (j : ℕ) → j < run.left → get_or lbns (i + j) 0 ≡ run.lbn.0 + j
  pub none : run.left ≡ 0 → length lbns ≤ i

-- How many blocks of the index file lie before pointer p of its header k, both from 0.
unfoldable pub blocks_before : List ℕ → ℕ → ℕ → ℕ
blocks_before image k p =
    let h = block image (get_or (places image) k 0) in
    length (flat (block image) (take k (places image))) + length (runs h (pointers_at h) p)

-- Pointer p of header k of the index file begins with the slot of n. One past the last pointer of a header begins where the next header does, and past the
-- last header there are no slots.
pub record Begins (image : List ℕ) (n k p : ℕ) : Type 0 where
  pub segment : k ≤ length (places image)
  pub pointer : k < length (places image) → p ≤ pointers (block image (get_or (places image) k 0))
  pub before : k < length (places image) → 1 + ibsz image + n ≡ blocks_before image k p
  pub past : k ≡ length (places image) → slots image < n

-- A walk over the slots stands at number n: the slots of the numbers from n on that lie in a row, and none past the last slot. They are what is left of
-- a pointer of the index file, and the next pointer begins with the slot after them.
pub record Stands (image : List ℕ) (n : ℕ) (run : SlotRun) : Type 0 where
  pub has : (i : ℕ) → i < run.left → n + i ≤ slots image
  pub row : (i : ℕ) → i < run.left → slot image (n + i) ≡ run.lbn.0 + i
  pub none : run.left ≡ 0 → slots image < n
  pub within : 1 ≤ run.left → run.segment < length (places image)
  pub done : run.left ≡ 0 → run.segment ≡ length (places image)
  pub next : Begins image (n + run.left) run.segment (run.pointer + 1)
  pub few : run.pointer < 128

-- What the headers of the numbers in use from 1 to n give, one after the other. 01, Demand 3: "A header in use is that of a number in use."
unfoldable pub gathered : List ℕ → (List ℕ → List ℕ) → ℕ → List ℕ
gathered image give zero = []
gathered image give (suc n) = gathered image give n ++ cond (in_use image (suc n)) (give (header image (suc n))) []
