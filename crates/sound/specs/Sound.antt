-- What sound means of an image. Every part is read from the image: neither from marks nor from the verdict's definition.
-- 00, 3: "Sound means: its five known files are in use with their own numbers as sequence and segment 0; every header in use has a slot and is
-- whole; extension headers link in single chains; no block is mapped twice; home positions passed over belong to the bad block file; the storage
-- map marks free exactly the unmapped blocks."
use Rattle.std.specs.Prelude.{◌≡◌, true, List, ℕ, ◌+◌, ◌≤◌, ◌<◌, length, get_or}
use Rattle.image.specs.Bits.{bit_at}
use Rattle.header.specs.Fields.{h_fseq, segment, m_efnu, m_efsq}
use Rattle.pointers.specs.Pointers.{blocks_of}
use Rattle.home.specs.Home.{blocks, position, home_index}
use Rattle.volume.specs.Volume.{slots, header, fault_of, in_use, storage_map, map_bits}
use Rattle.chains.specs.Chains.{file_blocks}

-- 00, 3: a known file is "in use with" its own number "as sequence and segment 0".
pub record Known (image : List ℕ) (n : ℕ) : Type 0 where
  pub used : in_use image n ≡ true
  pub sequence : h_fseq (header image n) ≡ n
  pub first : segment (header image n) ≡ 0

-- 01, The header: M.EFNU of the header of n "names a number in use with a slot, whole, with H.FSEQ = M.EFSQ and a segment number one higher".
pub record GoodLink (image : List ℕ) (n : ℕ) : Type 0 where
  pub used : in_use image (m_efnu (header image n)) ≡ true
  pub slotted : m_efnu (header image n) ≤ slots image
  pub whole : fault_of image (m_efnu (header image n)) ≡ 0
  pub sequence : h_fseq (header image (m_efnu (header image n))) ≡ m_efsq (header image n)
  pub next : segment (header image (m_efnu (header image n))) ≡ segment (header image n) + 1

-- 01, Demand 3: the number n "is the M.EFNU .. of exactly one" header in use.
pub record OneLink (image : List ℕ) (n : ℕ) : Type 0 where
  pub from : ℕ
  pub used : in_use image from ≡ true
  pub links : m_efnu (header image from) ≡ n
  pub only : (k : ℕ) → in_use image k ≡ true → m_efnu (header image k) ≡ n → k ≡ from

-- LBN j stands at place p, from 0, of the blocks that the header of n covers, and n is in use.
pub record Covers (image : List ℕ) (n p j : ℕ) : Type 0 where
  pub used : in_use image n ≡ true
  pub inside : p < length (blocks_of (header image n))
  pub here : get_or (blocks_of (header image n)) p 0 ≡ j

-- 01, Demand 3: "A block is mapped where it is covered by a pointer of a header in use."
pub record Mapped (image : List ℕ) (j : ℕ) : Type 0 where
  pub number : ℕ
  pub place : ℕ
  pub covers : Covers image number place j

-- LBN j is a block of file n.
pub record BlockOf (image : List ℕ) (n j : ℕ) : Type 0 where
  pub place : ℕ
  pub inside : place < length (file_blocks image n)
  pub here : get_or (file_blocks image n) place 0 ≡ j

-- All of sound but the storage map: a volume of which the map alone may be wrong, as after a call that was cut and before a salvage. 02, 11/14: "a salvage
-- tool that judges first and, where all but MAP passes, rewrites the map bits".
pub record Safe (image : List ℕ) : Type 0 where
  -- "its five known files are in use with their own numbers as sequence and segment 0"
  pub known : (n : ℕ) → 1 ≤ n → n ≤ 5 → Known image n
  -- "every header in use has a slot and is whole"
  pub slotted : (n : ℕ) → in_use image n ≡ true → n ≤ slots image
  pub whole : (n : ℕ) → in_use image n ≡ true → fault_of image n ≡ 0
  -- "extension headers link in single chains". 01, Demand 3: "every header in use has a good link, and the number of each is the M.EFNU of no header in
  -- use if its segment is 0, of exactly one if it is higher."
  pub link : (n : ℕ) → in_use image n ≡ true → (m_efnu (header image n) ≡ 0 → ⊥) → GoodLink image n
  pub first : (n : ℕ) → in_use image n ≡ true → segment (header image n) ≡ 0 → (k : ℕ) → in_use image k ≡ true → m_efnu (header image k) ≡ n → ⊥
  pub later : (n : ℕ) → in_use image n ≡ true → (segment (header image n) ≡ 0 → ⊥) → OneLink image n
  -- "no block is mapped twice"
  pub once : (n p m q j : ℕ) → Covers image n p j → Covers image m q j → (n ≡ m) × (p ≡ q)
  -- "home positions passed over belong to the bad block file". 01, Demand 3: "A home position passed over is one below the home; it belongs to the bad
  -- block file where a header of file 3's chain covers it."
  pub passed : (i : ℕ) → i < home_index image → BlockOf image 3 (position i)

pub record Sound (image : List ℕ) : Type 0 where
  pub safe : Safe image
  -- "the storage map marks free exactly the unmapped blocks". 01, Demand 3: "its bits below N are set exactly if not covered, and those from N on are
  -- clear".
  pub unmapped : (j : ℕ) → j < blocks image → (Mapped image j → ⊥) → bit_at (storage_map image) j ≡ 1
  pub mapped : (j : ℕ) → j < blocks image → Mapped image j → bit_at (storage_map image) j ≡ 0
  pub beyond : (j : ℕ) → blocks image ≤ j → j < map_bits (blocks image) → bit_at (storage_map image) j ≡ 0
