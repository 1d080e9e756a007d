-- What a call leaves as it was.
use Rattle.std.specs.Prelude.{◌≡◌, List, ℕ, ◌+◌, ◌/◌, ◌≤◌, ◌<◌, length, Ok, Err}
use Rattle.image.specs.Words.{Bytes}
use Rattle.image.specs.Blocks.{block}
use Rattle.answer.specs.declared.refusal.Refusal.{Refusal}
use Rattle.header.specs.Fields.{h_fseq}
use Rattle.volume.specs.Volume.{iblb, slot, slots, header, base, volume_of, places_of}
use Rattle.volume.specs.Opening.{open_volume}
use Rattle.chains.specs.Chains.{chain_of, file_blocks, last_number}
use Rattle.lists.specs.Counts.{In}
use Rattle.spare_number.specs.SpareNumber.{spare_number}
use Rattle.update.specs.Create.{index_bit}
use Rattle.update.specs.Extend.{run_start}
use Rattle.history.specs.Calls.{Call, create, extend, delete, outcome_of, step, image_after, Words, Each}
use Rattle.history.specs.Claims.{Accepted}

-- 00, 1: "A refused call changes no byte of the image". This holds of every image.
abbrev pub RefusedKeeps : Type 0
RefusedKeeps = (call : Call) (image : List ℕ) (r : Refusal) → outcome_of call image ≡ Err r → step call image ≡ image

-- Block k has bit j of a map that begins at LBN `from`. A block has 4,096 bits.
abbrev pub HasBit : ℕ → ℕ → ℕ → Type 0
HasBit from j k = k ≡ from + j / 4096

-- Block k is none of those that 01, Create, Extend and Delete, name: the slot of the new number and the block of its index bit; the slot of the last segment
-- and the blocks of the new blocks' map bits; the slots of the chain, the blocks of their index bits, and the blocks of the file's map bits.
abbrev pub Unwritten : Call → List ℕ → ℕ → Type 0
Unwritten (create name owner protection area headers) image k =
    (k ≡ slot image (spare_number image) → ⊥) × (HasBit (iblb image) (index_bit (spare_number image)) k → ⊥)
Unwritten (extend id c area headers) image k =
    (k ≡ slot image (last_number image id.number) → ⊥)
    × ((j : ℕ) → run_start image c ≤ j → j < run_start image c + c → HasBit (base image) j k → ⊥)
Unwritten (delete id area headers) image k =
    ((n : ℕ) → In n (chain_of image id.number) → (k ≡ slot image n → ⊥) × (HasBit (iblb image) (index_bit n) k → ⊥))
    × ((j : ℕ) → In j (file_blocks image id.number) → HasBit (base image) j k → ⊥)

-- 00, 2: "Create, extend and delete change just what the rules name".
pub record Bounded (image : List ℕ) (call : Call) : Type 0 where
  pub size : length (step call image) ≡ length image
  pub others : (k : ℕ) → Unwritten call image k → block (step call image) k ≡ block image k

abbrev pub WritesBounded : Type 0
WritesBounded = (image : List ℕ) → Bytes image → Accepted image → (call : Call) → Words call → Bounded image call

-- No list of calls changes how the volume opens, and the sequence word of no slot ever falls.
pub record Steady (image : List ℕ) (calls : List Call) : Type 0 where
  pub opens : open_volume (image_after calls image) ≡ Ok tt
  pub volume : volume_of (image_after calls image) ≡ volume_of image
  pub places : places_of (image_after calls image) ≡ places_of image
  pub slotted : slots (image_after calls image) ≡ slots image
  pub rises : (n : ℕ) → 1 ≤ n → n ≤ slots image → h_fseq (header image n) ≤ h_fseq (header (image_after calls image) n)

abbrev pub VolumeSteady : Type 0
VolumeSteady = (image : List ℕ) → Bytes image → Accepted image → (calls : List Call) → Each Words calls → Steady image calls
