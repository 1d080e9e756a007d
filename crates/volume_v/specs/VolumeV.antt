-- Volume V as bytes. 01, Volume V: "N 100, home 1, H.FMAX 16, m 1, H.IBLB 2. Header 1 covers 0–18; 2: 19–20; 3: 99; 4: 21; 5: none; 6, sequence 9:
-- 30–31, then 25. Unused slots are zero. Block 21 has one record, READS.DAT;1 to 6,9,0." What 01 leaves free is 0, but for the bytes of the blocks
-- 25, 30 and 31, which tell the three apart, and the end of file in header 4, block 1, byte 16. Checksums are numbers from outside.
use Rattle.std.specs.Prelude.{List, [], ◌∷◌, ◌++◌, ℕ, ◌-◌, ◌/◌, ◌%◌, length, replicate}
use Rattle.image.specs.Stores.{zeros}

-- 01, The work and its edge: "Words are two bytes, low byte first."
unfoldable pub words : List ℕ → List ℕ
words [] = []
words (w ∷ ws) = w % 256 ∷ w / 256 ∷ words ws

-- Parts one after the other.
unfoldable pub join : List (List ℕ) → List ℕ
join [] = []
join (p ∷ ps) = p ++ join ps

-- The home: H.IBSZ 1, H.IBLB 2 (high word first), H.FMAX 16, H.SBCL 1, H.VLEV 257; H.CHK1 at byte 58; H.INDF at byte 496; the checksum.
unfoldable pub home_block : List ℕ
home_block = join (
    words (1 ∷ 0 ∷ 2 ∷ 16 ∷ 1 ∷ 0 ∷ 257 ∷ [])
    ∷ zeros 44
    ∷ words (277 ∷ [])
    ∷ zeros 436
    ∷ (68 ∷ 69 ∷ 67 ∷ 70 ∷ 73 ∷ 76 ∷ 69 ∷ 49 ∷ 49 ∷ 65 ∷ 32 ∷ 32 ∷ [])
    ∷ zeros 2
    ∷ words (27792 ∷ [])
    ∷ [])

-- The index map: numbers 1 to 6 are in use.
unfoldable pub index_map_block : List ℕ
index_map_block = 63 ∷ zeros 511

-- A header of number n and sequence s, with H.IDOF 23, H.MPOF 46 and M.MAX 204; its 32 attribute bytes, its pointers as bytes, and its checksum.
unfoldable pub header_block : ℕ → ℕ → List ℕ → List ℕ → ℕ → List ℕ
header_block n s attributes pointers sum = join (
    (23 ∷ 46 ∷ [])
    ∷ words (n ∷ s ∷ 257 ∷ 0 ∷ 0 ∷ 0 ∷ [])
    ∷ attributes
    ∷ zeros 52
    ∷ (1 ∷ 3 ∷ length pointers / 2 ∷ 204 ∷ [])
    ∷ pointers
    ∷ zeros (408 - length pointers)
    ∷ words (sum ∷ [])
    ∷ [])

-- The attributes of header 4: the end-of-file block 1 at byte 24 of the header, the first free byte 16 at byte 26.
unfoldable pub end_of_file : List ℕ
end_of_file = join (zeros 8 ∷ words (0 ∷ 1 ∷ 16 ∷ []) ∷ zeros 18 ∷ [])

-- The storage map: 22–24, 26–29 and 32–98 are free.
unfoldable pub storage_map_block : List ℕ
storage_map_block = join ((0 ∷ 0 ∷ 192 ∷ 61 ∷ []) ∷ replicate 8 255 ∷ (7 ∷ []) ∷ zeros 499 ∷ [])

-- The directory: one record, the ID 6,9,0, the name READS.DAT;1.
unfoldable pub directory_block : List ℕ
directory_block = join (words (6 ∷ 9 ∷ 0 ∷ 29001 ∷ 7160 ∷ 0 ∷ 6460 ∷ 1 ∷ []) ∷ zeros 496 ∷ [])

unfoldable pub volume_v : List ℕ
volume_v = join (
    zeros 512
    ∷ home_block
    ∷ index_map_block
    ∷ header_block 1 1 (zeros 32) (0 ∷ 18 ∷ 0 ∷ 0 ∷ []) 4125
    ∷ header_block 2 2 (zeros 32) (0 ∷ 1 ∷ 19 ∷ 0 ∷ []) 65330
    ∷ header_block 3 3 (zeros 32) (0 ∷ 0 ∷ 99 ∷ 0 ∷ []) 65156
    ∷ header_block 4 4 end_of_file (0 ∷ 0 ∷ 21 ∷ 0 ∷ []) 65097
    ∷ header_block 5 5 (zeros 32) [] 65059
    ∷ header_block 6 9 (zeros 32) (0 ∷ 1 ∷ 30 ∷ 0 ∷ 0 ∷ 0 ∷ 25 ∷ 0 ∷ []) 65379
    -- slots 7 to 16
    ∷ zeros 5120
    -- block 19: q, and block 20
    ∷ (0 ∷ 0 ∷ 0 ∷ 1 ∷ zeros 508)
    ∷ storage_map_block
    -- block 21
    ∷ directory_block
    ∷ zeros 1536
    -- block 25
    ∷ replicate 512 25
    ∷ zeros 2048
    -- blocks 30 and 31
    ∷ replicate 512 30
    ∷ replicate 512 31
    ∷ zeros 34816
    ∷ [])
