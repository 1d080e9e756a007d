-- A header's retrieval pointers, and the blocks that they cover.
use Rattle.answer.specs.declared.types.Lbn.{Lbn}
use Rattle.std.specs.Prelude.{◌≡◌, cond, List, [], ◌++◌, ◌∷◌, ℕ, zero, suc, ◌+◌, ◌*◌, ◌-◌, ◌/◌, ◌≤◌, ◌<◌, ltb, length, get_or, Ok, Err, Result}
use Rattle.lists.specs.Lists.{numbers_from}
use Rattle.image.specs.Words.{byte_at, word_at}
use Rattle.header.specs.Fields.{map_area, m_use}
use Rattle.pointers.specs.declared.Spot.{Spot}

-- 01, The header: "A pointer: high LBN byte, count byte, low LBN word". The first LBN of the pointer at a byte of the header.
unfoldable pub pointer_lbn : List ℕ → ℕ → ℕ
pointer_lbn h at = 65536 * byte_at h at + word_at h (at + 2)

-- 01, The header: "count c covers c+1 blocks".
unfoldable pub pointer_count : List ℕ → ℕ → ℕ
pointer_count h at = byte_at h (at + 1) + 1

-- The LBNs that the pointer at a byte of the header covers, in order.
unfoldable pub run : List ℕ → ℕ → List ℕ
run h at = numbers_from (pointer_lbn h at) (pointer_count h at)

-- The LBNs of the first p of the pointers that stand from a byte of the header on. A pointer has four bytes.
unfoldable pub runs : List ℕ → ℕ → ℕ → List ℕ
runs h at zero = []
runs h at (suc p) = runs h at p ++ run h (at + 4 * p)

-- 01, The header: "pointers from 10".
unfoldable pub pointers_at : List ℕ → ℕ
pointers_at h = map_area h + 10

-- How many pointers are in use. M.USE counts their words, and a pointer has two.
unfoldable pub pointers : List ℕ → ℕ
pointers h = m_use h / 2

-- The pointers in use lie in the header.
abbrev pub Fits : List ℕ → Type 0
Fits h = pointers_at h + 4 * pointers h ≤ length h

-- The LBNs that a header covers. 01, The header: "VBNs run through its pointers in order."
unfoldable pub blocks_of : List ℕ → List ℕ
blocks_of h = runs h (pointers_at h) (pointers h)

-- Place i, from 0, of the blocks that a header covers: from there on so many blocks lie in a row from an LBN on, up to the end of this pointer.
pub record InPointer (h : List ℕ) (i lbn left pointer : ℕ) : Type 0 where
  pub some : 1 ≤ left
  pub used : pointer < pointers h
  pub end : i + left ≡ length (runs h (pointers_at h) (pointer + 1))
  pub inside : i + left ≤ length (blocks_of h)
  pub row : (j : ℕ) → j < left → get_or (blocks_of h) (i + j) 0 ≡ lbn + j

-- Where place i, from 0, lies among the pointers of a header.
abbrev pub SpotOf : List ℕ → ℕ → Result Spot ℕ → Type 0
SpotOf h i (Ok spot) = InPointer h i spot.lbn.0 spot.left spot.pointer
SpotOf h i (Err more) = i ≡ length (blocks_of h) + more

-- The block at a place, from 0, of a list of LBNs; or how far the place lies past them.
unfoldable pub place_in : List ℕ → ℕ → Result Lbn ℕ
place_in lbns i = cond (ltb i (length lbns)) (Ok (record { 0 = get_or lbns i 0 })) (Err (i - length lbns))

-- The LBNs that headers cover, those of one header after those of the other. hdr gives a header: that of a file number, or the one at an LBN.
unfoldable pub flat : (ℕ → List ℕ) → List ℕ → List ℕ
flat hdr [] = []
flat hdr (n ∷ ns) = blocks_of (hdr n) ++ flat hdr ns

-- Where retrieval pointer p, from 0, of a header stands. 01, The header: "pointers from 10"; a pointer has four bytes.
unfoldable pub pointer_at : List ℕ → ℕ → ℕ
pointer_at h p = pointers_at h + 4 * p
