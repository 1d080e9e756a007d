-- The chain of a file's headers, and the file's blocks.
use Rattle.answer.specs.declared.types.Lbn.{Lbn}
use Rattle.std.specs.Prelude.{◌≡◌, Bool, true, cond, ◌&&◌, ◌||◌, List, [], ◌∷◌, ℕ, zero, suc, ◌+◌, ◌≤◌, eqb, length, Some, None, Option}
use Rattle.lists.specs.Lists.{every, last_of}
use Rattle.header.specs.Fields.{segment, m_efnu}
use Rattle.pointers.specs.Pointers.{flat}
use Rattle.home.specs.Home.{blocks}
use Rattle.volume.specs.Volume.{follows, slot, header, fault_of, is_number}
use Rattle.chains.specs.declared.Link.{Link}
use Rattle.chains.specs.declared.Link.TheVariants as links

-- 01, The header: "a number in use with a slot". The slot of n, if n is such a number.
unfoldable pub slot_in_use : List ℕ → ℕ → Option Lbn
slot_in_use image n = cond (is_number image n) (Some (record { 0 = slot image n })) None

-- 01, The header: "names a number in use with a slot, whole, with H.FSEQ = M.EFSQ and a segment number one higher". Header h does so by M.EFNU.
unfoldable pub links_on : List ℕ → List ℕ → Bool
links_on image h = is_number image (m_efnu h) && follows (blocks image) h (header image (m_efnu h))

-- 01, The header: "Good link from a header: M.EFNU is 0, or names a number in use ..".
unfoldable pub good_link : List ℕ → List ℕ → Bool
good_link image h = eqb (m_efnu h) 0 || links_on image h

-- 01, The header: "M.EFNU is 0, or names ..". Where the link of header h leads: nowhere, to the header in the slot of M.EFNU, or it is bad.
unfoldable pub link_from : List ℕ → List ℕ → Link
link_from image h = cond (eqb (m_efnu h) 0) links.End (cond (links_on image h) (links.To (record { 0 = slot image (m_efnu h) })) links.Bad)

-- The link of header h is good, and header next is the one that it leads to. 01, The header: "a segment number one higher".
pub record NextHeader (image h next : List ℕ) : Type 0 where
  pub some : m_efnu h ≡ 0 → ⊥
  pub good : good_link image h ≡ true
  pub is : next ≡ header image (m_efnu h)
  pub higher : segment next ≡ segment h + 1
  pub low : segment next ≤ 255

-- The numbers of the headers that are linked by M.EFNU from that of number n on, at most f of them. hdr gives the header of a number.
unfoldable pub chain : (ℕ → List ℕ) → ℕ → ℕ → List ℕ
chain hdr zero n = []
chain hdr (suc f) n =
    let on = chain hdr f (m_efnu (hdr n)) in
    n ∷ cond (eqb (m_efnu (hdr n)) 0) [] on

-- 01, The header: "A chain thus ends within 256 headers." The numbers of a file's headers, from the first, n, on.
unfoldable pub chain_of : List ℕ → ℕ → List ℕ
chain_of image n = chain (header image) 256 n

-- 01, Answer numbers: "12 CHAIN | a bad link". The header of number n has a good link.
unfoldable pub good_link_of : List ℕ → ℕ → Bool
good_link_of image n = good_link image (header image n)

unfoldable pub good_chain : List ℕ → ℕ → Bool
good_chain image n = every (good_link_of image) (chain_of image n)

-- What finding a file's header asks of its number n. 01, Answer numbers, 7, 8 and 10: in use with a slot, whole, segment 0.
abbrev pub IsFirst : List ℕ → ℕ → Type 0
IsFirst image n = (is_number image n ≡ true) × (fault_of image n ≡ 0) × (segment (header image n) ≡ 0)

-- 01, The header: "VBNs run through its pointers in order." 01, Demand 3: "A file's blocks are the LBNs of its VBNs, from 1 to the last". The file
-- whose first header has number n.
unfoldable pub file_blocks : List ℕ → ℕ → List ℕ
file_blocks image n = flat (header image) (chain_of image n)

-- 01, Answer numbers: "12 CHAIN | a bad link", and DONE has as value the "block count (open file)". What the chain of the file whose first header
-- has number n comes to.
unfoldable pub chain_blocks : List ℕ → ℕ → Option ℕ
chain_blocks image n = cond (good_chain image n) (Some (length (file_blocks image n))) None

-- The slots of a list of numbers.
unfoldable pub slots_of : List ℕ → List ℕ → List ℕ
slots_of image [] = []
slots_of image (n ∷ ns) = slot image n ∷ slots_of image ns

-- 01, Extend: "the last segment". The number of the last header of the file whose first header has number n.
unfoldable pub last_number : List ℕ → ℕ → ℕ
last_number image n = last_of n (chain_of image n)
