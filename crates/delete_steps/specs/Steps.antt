-- What the steps of delete ask of the numbers and slots that are handed to them.
use Rattle.std.specs.Prelude.{List, ℕ, ◌+◌, ◌*◌, ◌≤◌, ◌<◌, length, get_or}
use Rattle.image.specs.Blocks.{block}
use Rattle.pointers.specs.Pointers.{pointer_lbn, pointer_count, Fits}
use Rattle.covers.specs.Covered.{Ends}

-- Each of the first `count` numbers has a bit in an index map of q blocks. 01, Index file: "index map bit n−1".
pub record HaveBits (q count : ℕ) (numbers : List ℕ) : Type 0 where
  pub long : count ≤ length numbers
  pub each : (i : ℕ) → i < count → (1 ≤ get_or numbers i 0) × (get_or numbers i 0 ≤ 4096 * q)

-- The pointer at a byte of the header h lies in the header, and ends at or below k.
pub record PointsInto (k : ℕ) (h : List ℕ) (at : ℕ) : Type 0 where
  pub inside : at + 4 ≤ length h
  pub below : pointer_lbn h at + pointer_count h at ≤ k

-- Block `lbn` lies outside the storage map, the q blocks from LBN k on, and holds a header whose pointers lie in it and cover blocks that have a bit there.
pub record Freeable (image : List ℕ) (k q lbn : ℕ) : Type 0 where
  pub outside : k ≤ lbn → lbn < k + q → ⊥
  pub fits : Fits (block image lbn)
  pub ends : Ends (4096 * q) (block image lbn)

-- Each of the first `count` slots is such a block.
pub record AllFreeable (image : List ℕ) (k q count : ℕ) (slots : List ℕ) : Type 0 where
  pub long : count ≤ length slots
  pub each : (i : ℕ) → i < count → Freeable image k q (get_or slots i 0)

-- Each of the first `count` slots lies on the volume.
pub record AllInside (image : List ℕ) (count : ℕ) (slots : List ℕ) : Type 0 where
  pub long : count ≤ length slots
  pub each : (i : ℕ) → i < count → 512 * (get_or slots i 0 + 1) ≤ length image
