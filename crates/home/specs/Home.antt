-- The home block: its fields, what makes a block one, and which position of the volume has it.
use Rattle.std.specs.Prelude.{Bool, not, ◌&&◌, ◌||◌, List, [], ◌∷◌, ℕ, zero, suc, ◌+◌, ◌*◌, ◌/◌, eqb, length}
use Rattle.image.specs.Words.{byte_at, word_at}
use Rattle.image.specs.Blocks.{block}
use Rattle.image.specs.Sums.{checksum}
use Rattle.lists.specs.First.{first, below}

-- 01, Home block: "bytes: H.IBSZ 0; H.IBLB 2 (high word first); H.FMAX 6; H.SBCL 8; H.VLEV 12; H.INDF 496, 12 bytes."
unfoldable pub h_ibsz : List ℕ → ℕ
h_ibsz b = word_at b 0

unfoldable pub h_iblb : List ℕ → ℕ
h_iblb b = 65536 * word_at b 2 + word_at b 4

unfoldable pub h_fmax : List ℕ → ℕ
h_fmax b = word_at b 6

unfoldable pub h_sbcl : List ℕ → ℕ
h_sbcl b = word_at b 8

unfoldable pub h_vlev : List ℕ → ℕ
h_vlev b = word_at b 12

-- 01, Home block: "`DECFILE11A` and two spaces".
unfoldable pub indf : List ℕ
indf = 68 ∷ 69 ∷ 67 ∷ 70 ∷ 73 ∷ 76 ∷ 69 ∷ 49 ∷ 49 ∷ 65 ∷ 32 ∷ 32 ∷ []

-- Byte i of H.INDF is as it must be.
unfoldable pub indf_at : List ℕ → ℕ → Bool
indf_at b i = eqb (byte_at b (496 + i)) (byte_at indf i)

-- 01, Home block: "has both checksums right, H.IBSZ, H.IBLB, H.FMAX not 0, H.SBCL 1, H.VLEV 257 or 258, H.INDF `DECFILE11A` and two spaces".
-- 01, Checksum: "The sum of the first 255 words, kept to 16 bits, equals word 255"; "H.CHK1, byte 58, is the same sum over words 0 to 28."
unfoldable pub is_home : List ℕ → Bool
is_home b =
    eqb (checksum b 255) (word_at b 510)
    && eqb (checksum b 29) (word_at b 58)
    && not (eqb (h_ibsz b) 0)
    && not (eqb (h_iblb b) 0)
    && not (eqb (h_fmax b) 0)
    && eqb (h_sbcl b) 1
    && (eqb (h_vlev b) 257 || eqb (h_vlev b) 258)
    && below 12 (indf_at b)

-- 01, The work and its edge: "a lent image of 512·N bytes". N, the number of whole blocks of an image.
unfoldable pub blocks : List ℕ → ℕ
blocks image = length image / 512

-- 01, Home block: "Positions 1, 256, 512, 768 and so on". Position i, from 0.
unfoldable pub position : ℕ → ℕ
position zero = 1
position (suc i) = 256 * suc i

-- How many positions are "below N": 1, and the multiples of 256.
unfoldable pub positions : ℕ → ℕ
positions n = (n + 255) / 256

-- The block at position i is a home block.
unfoldable pub home_at : List ℕ → ℕ → Bool
home_at image i = is_home (block image (position i))

-- 01, Home block: "the home is the first that has ..". Which position it is, from 0; the number of positions where none has it.
unfoldable pub home_index : List ℕ → ℕ
home_index image = first (home_at image) 0 (positions (blocks image))

-- The LBN of the home.
unfoldable pub home : List ℕ → ℕ
home image = position (home_index image)
