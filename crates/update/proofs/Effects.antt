-- What a writer does to an image, as equations between what was read from it before and what is read from it after.
use mathlib.Core.Path.{◌≡◌}
use mathlib.Core.Bool.{true, false}
use mathlib.Core.List.{List, [], ◌++◌}
use Prim.Native.Nat.{ℕ, ◌+◌, ◌≤◌, ◌<◌}
use Rattle.image.specs.Words.{Bytes}
use Rattle.image.specs.Blocks.{block}
use Rattle.image.specs.Bits.{bit_at}
use Rattle.lists.specs.Lists.{numbers_from}
use Rattle.image.proofs.StoreLaws.{Keeps}
use Rattle.header.specs.Fields.{h_fseq, segment, m_efnu, m_efsq}
use Rattle.pointers.specs.Pointers.{blocks_of}
use Rattle.home.specs.Home.{blocks, position, home_index}
use Rattle.volume.specs.Volume.{ibsz, iblb, fmax, slot, slots, header, fault_of, in_use, map_blocks, base, storage_map, map_bits}
use Rattle.volume.proofs.VolumeLaws.{Opens}
use Rattle.chains.specs.Chains.{chain_of, file_blocks}
use Rattle.pointers.specs.Pointers.{flat}
use Rattle.lists.specs.Counts.{count, In}
use Rattle.sound.specs.Sound.{BlockOf, Safe, Sound}

-- Block k is no slot of a number of S, none of the index map and none of the storage map: what every writer that writes the slots of S leaves as it was.
pub record Clear (image : List ℕ) (S : ℕ → Type 0) (k : ℕ) : Type 0 where
  pub slots : (n : ℕ) → S n → k ≡ slot image n → ⊥
  pub index : iblb image ≤ k → k < iblb image + ibsz image → ⊥
  pub storage : base image ≤ k → k < base image + map_blocks (blocks image) → ⊥

-- An image of bytes that opens and is safe, whatever its storage map says.
pub record Usable (image : List ℕ) : Type 0 where
  pub bytes : Bytes image
  pub opens : Opens image
  pub safe : Safe image

-- An image of bytes that opens and is sound.
pub record Good (image : List ℕ) : Type 0 where
  pub bytes : Bytes image
  pub opens : Opens image
  pub sound : Sound image

pub good-usable : {image : List ℕ} → Good image → Usable image
good-usable g = record { bytes = g.bytes; opens = g.opens; safe = g.sound.safe }

-- A usable image is written only in slots of numbers of S, in the index map and in the storage map. S has no known file, only numbers that have a slot,
-- and none of the index file's.
pub record Written (image image' : List ℕ) (S : ℕ → Type 0) : Type 0 where
  pub usable : Usable image
  pub known : (n : ℕ) → S n → (6 ≤ n) × (n ≤ slots image)
  pub apart : (n : ℕ) → S n → In n (chain_of image 1) → ⊥
  pub keeps : Keeps (Clear image S) image image'

-- The numbers of the index file's headers are in use after as they were.
abbrev pub Stays : List ℕ → List ℕ → Type 0
Stays image image' = (x : ℕ) → In x (chain_of image 1) → in_use image' x ≡ in_use image x

-- A file keeps its headers, its blocks and their bytes.
pub record KeptFile (image image' : List ℕ) (f : ℕ) : Type 0 where
  pub headers : (x : ℕ) → In x (chain_of image f) → header image' x ≡ header image x
  pub chain : chain_of image' f ≡ chain_of image f
  pub blocks : file_blocks image' f ≡ file_blocks image f
  pub bytes : (j : ℕ) → In j (file_blocks image f) → block image' j ≡ block image j

-- What no writer changes, and what then holds of the home positions passed over.
pub record Fixed (image image' : List ℕ) : Type 0 where
  pub blocks : blocks image' ≡ blocks image
  pub fmax : fmax image' ≡ fmax image
  pub slots : slots image' ≡ slots image
  pub passed : (i : ℕ) → i < home_index image' → BlockOf image' 3 (position i)

-- Number n is in use after, with a whole header of its own that covers nothing and links to nothing.
pub record Created (image image' : List ℕ) (n : ℕ) : Type 0 where
  pub fixed : Fixed image image'
  pub low : 6 ≤ n
  pub has : n ≤ slots image
  pub was : in_use image n ≡ false
  pub is : in_use image' n ≡ true
  pub others : (k : ℕ) → (k ≡ n → ⊥) → in_use image' k ≡ in_use image k
  pub headers : (k : ℕ) → in_use image k ≡ true → header image' k ≡ header image k
  pub whole : fault_of image' n ≡ 0
  pub empty : blocks_of (header image' n) ≡ []
  pub unlinked : m_efnu (header image' n) ≡ 0
  pub first : segment (header image' n) ≡ 0
  pub bits : (j : ℕ) → j < map_bits (blocks image) → bit_at (storage_map image') j ≡ bit_at (storage_map image) j

-- The header of n, which was in use, covers the c blocks from LBN s on after those that it covered; they were free and are free no longer.
pub record Extended (image image' : List ℕ) (n s c : ℕ) : Type 0 where
  pub fixed : Fixed image image'
  pub old : in_use image n ≡ true
  pub used : (k : ℕ) → in_use image' k ≡ in_use image k
  pub headers : (k : ℕ) → in_use image k ≡ true → (k ≡ n → ⊥) → header image' k ≡ header image k
  pub whole : fault_of image' n ≡ 0
  pub more : blocks_of (header image' n) ≡ blocks_of (header image n) ++ numbers_from s c
  pub efnu : m_efnu (header image' n) ≡ m_efnu (header image n)
  pub efsq : m_efsq (header image' n) ≡ m_efsq (header image n)
  pub fseq : h_fseq (header image' n) ≡ h_fseq (header image n)
  pub seg : segment (header image' n) ≡ segment (header image n)
  pub fits : s + c ≤ blocks image
  pub was : (j : ℕ) → s ≤ j → j < s + c → bit_at (storage_map image) j ≡ 1
  pub now : (j : ℕ) → s ≤ j → j < s + c → bit_at (storage_map image') j ≡ 0
  pub rest : (j : ℕ) → j < map_bits (blocks image) → (s ≤ j → j < s + c → ⊥) → bit_at (storage_map image') j ≡ bit_at (storage_map image) j

-- The numbers of l are in use no longer, and the blocks that they covered are free.
pub record Deleted (image image' : List ℕ) (l : List ℕ) : Type 0 where
  pub fixed : Fixed image image'
  pub gone : (k : ℕ) → In k l → in_use image' k ≡ false
  pub used : (k : ℕ) → count k l ≡ 0 → in_use image' k ≡ in_use image k
  pub headers : (k : ℕ) → in_use image k ≡ true → count k l ≡ 0 → header image' k ≡ header image k
  pub now : (j : ℕ) → In j (flat (header image) l) → bit_at (storage_map image') j ≡ 1
  pub rest : (j : ℕ) → j < map_bits (blocks image) → count j (flat (header image) l) ≡ 0 → bit_at (storage_map image') j ≡ bit_at (storage_map image) j
