-- The worked cases that 01, "Volume V", marks P: one statement.
use Rattle.std.specs.Prelude.{◌≡◌, List, [], ◌∷◌, ℕ, Ok, Err}
use Rattle.image.specs.Stores.{zeros}
use Rattle.image.specs.Sums.{checksum}
use Rattle.answer.specs.declared.refusal.Refusal.TheVariants as refusal
use Rattle.answer.specs.declared.types.FileId.{FileId}
use Rattle.radix50.specs.Words.{characters_of}
use Rattle.parse.specs.Parse.{part_word}
use Rattle.volume.specs.Volume.{map_blocks}
use Rattle.mapping.specs.Mapping.{map_answer}
use Rattle.update.specs.Extend.{extend_answer}
use Rattle.volume_v.specs.VolumeV.{volume_v}

-- 01, Volume V: the texts "READS" and "DAT".
unfoldable pub reads : List ℕ
reads = 82 ∷ 69 ∷ 65 ∷ 68 ∷ 83 ∷ []

unfoldable pub dat : List ℕ
dat = 68 ∷ 65 ∷ 84 ∷ []

-- 01, Volume V: "words 65535, 2, rest 0", as a block.
unfoldable pub two_words : List ℕ
two_words = 255 ∷ 255 ∷ 2 ∷ 0 ∷ zeros 508

-- 01, Volume V: the ID "6,9", on volume 0.
unfoldable pub file6 : FileId
file6 = record { number = 6; sequence = 9; volume = 0 }

-- 01, What would not satisfy us: "The P cases stand together under a single statement about the definitions".
pub record Cases : Type 0 where
  -- "READS is 29001, 7160, 0 (P)"
  pub reads-is : part_word reads 0 ∷ part_word reads 1 ∷ part_word reads 2 ∷ [] ≡ 29001 ∷ 7160 ∷ 0 ∷ []
  -- "DAT 6460 (P)"
  pub dat-is : part_word dat 0 ≡ 6460
  -- "63,999 is `999` (P)"
  pub nines : characters_of 63999 ≡ Ok (57 ∷ 57 ∷ 57 ∷ [])
  -- "64,000 refused (P)"
  pub above : characters_of 64000 ≡ Err refusal.Name
  -- "words 65535, 2, rest 0 sum to 1 (P)"
  pub sum : checksum two_words 255 ≡ 1
  -- "H.FMAX 4096 gives m 1, 4097 gives 2 (P)"
  pub fmax-4096 : map_blocks 4096 ≡ 1
  pub fmax-4097 : map_blocks 4097 ≡ 2
  -- "6,9 VBN 2 is LBN 31 (P)"
  pub vbn-2 : map_answer volume_v file6 2 ≡ Ok (record { 0 = 31 })
  -- "VBN 3 is 25 (P)"
  pub vbn-3 : map_answer volume_v file6 3 ≡ Ok (record { 0 = 25 })
  -- "VBN 4 refused (P)"
  pub vbn-4 : map_answer volume_v file6 4 ≡ Err refusal.Vbn
  -- "Extend by 4 takes 26 (P)". Here and below the work areas have N and H.FMAX bytes: 100 and 16.
  pub extend-4 : extend_answer volume_v file6 4 100 16 ≡ Ok (record { 0 = 26 })
  -- "by 68 is RUN (P)"
  pub extend-68 : extend_answer volume_v file6 68 100 16 ≡ Err refusal.Run
