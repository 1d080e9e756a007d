-- What an image says of its volume: which numbers are in use, the index file, the slots of file headers, and the storage map.
-- "Slot" and "in use" are 01's words; "place" and "segment" of an index file's header are 02's.
use Rattle.answer.specs.declared.types.Lbn.{Lbn}
use Rattle.std.specs.Prelude.{Bool, cond, ◌&&◌, List, [], ◌∷◌, ◌++◌, ℕ, zero, suc, ◌+◌, ◌-◌, ◌/◌, ◌*◌, eqb, leb, length, get_or, Some, None, Option}
use Rattle.image.specs.Blocks.{region, block}
use Rattle.image.specs.Bits.{bit_at}
use Rattle.image.specs.Stores.{zeros}
use Rattle.header.specs.Fields.{h_fseq, segment, m_efnu, m_efsq}
use Rattle.pointers.specs.Pointers.{blocks_of, flat}
use Rattle.whole.specs.Whole.{fault}
use Rattle.home.specs.Home.{h_ibsz, h_iblb, h_fmax, blocks, home}
use Rattle.volume.specs.declared.Volume.{Volume}

-- 01, Home block: H.IBSZ, H.IBLB and H.FMAX of the home. 01, Geometry: "m = H.IBSZ".
unfoldable pub ibsz : List ℕ → ℕ
ibsz image = h_ibsz (block image (home image))

unfoldable pub iblb : List ℕ → ℕ
iblb image = h_iblb (block image (home image))

unfoldable pub fmax : List ℕ → ℕ
fmax image = h_fmax (block image (home image))

-- 01, Index file: "index map"; it is the m blocks from H.IBLB on.
unfoldable pub index_map : List ℕ → List ℕ
index_map image = region image (iblb image) (ibsz image)

-- 01, Index file: "Number n, from 1 to H.FMAX only, is in use when index map bit n−1 is set."
unfoldable pub in_use : List ℕ → ℕ → Bool
in_use image n = leb 1 n && leb n (fmax image) && eqb (bit_at (index_map image) (n - 1)) 1

-- 01, Index file: "Header 1 lies at LBN H.IBLB + m."
unfoldable pub index_header : List ℕ → List ℕ
index_header image = block image (iblb image + ibsz image)

-- 01, Index file: "The slot of file n is VBN 2+m+n".
abbrev pub slot_vbn : ℕ → ℕ → ℕ
slot_vbn m n = 2 + m + n

-- The LBN of that slot in a part of the index file that begins with VBN 1, given by its LBNs in order: VBN 2+m+n is the one at place 1+m+n, from 0.
abbrev pub part_slot : ℕ → List ℕ → ℕ → ℕ
part_slot m part n = get_or part (1 + m + n) 0

-- 01, Index file: "past the mapped blocks n has no slot". How many numbers have one in such a part.
abbrev pub part_slots : ℕ → List ℕ → ℕ
part_slots m part = length part - (2 + m)

-- 01, The header: M.EFNU of h "names a number .., whole, with H.FSEQ = M.EFSQ and a segment number one higher". Header next is such a one.
unfoldable pub follows : ℕ → List ℕ → List ℕ → Bool
follows blocks h next = eqb (fault blocks (m_efnu h) next) 0 && eqb (h_fseq next) (m_efsq h) && eqb (segment next) (segment h + 1)

-- 01, The header: M.EFNU "names a number in use with a slot, ..". 02, 9/14: "The header of each further segment must have its slot in the part that
-- earlier segments map." Header h of the index file leads on to a further segment; part is what the segments up to h map.
unfoldable pub leads_on : List ℕ → List ℕ → List ℕ → Bool
leads_on image part h =
    in_use image (m_efnu h)
    && leb (m_efnu h) (part_slots (ibsz image) part)
    && follows (blocks image) h (block image (part_slot (ibsz image) part (m_efnu h)))

-- The LBNs of the index file's headers from the one at an LBN on, at most f of them, as far as they lead on; part is what the headers before it map.
unfoldable pub places_from : List ℕ → ℕ → List ℕ → ℕ → List ℕ
places_from image zero part at = []
places_from image (suc f) part at =
    let h = block image at in
    let more = part ++ blocks_of h in
    let on = places_from image f more (part_slot (ibsz image) more (m_efnu h)) in
    at ∷ cond (leads_on image more h) on []

-- 02, 9/14: "the places of all headers in the chain of file 1". 01, The header: "A chain thus ends within 256 headers."
unfoldable pub places : List ℕ → List ℕ
places image = places_from image 256 [] (iblb image + ibsz image)

-- The blocks of the index file, in the order of their VBNs. 02, 9/14: "Slots, verdict and all calls read the long map."
unfoldable pub index : List ℕ → List ℕ
index image = flat (block image) (places image)

-- 02, 9/14: "INDEX also for a bad link or a slot not yet mapped". The last header that is led to has no further one, so no link is bad.
unfoldable pub index_ends : List ℕ → Bool
index_ends image = eqb (m_efnu (block image (get_or (places image) (length (places image) - 1) 0))) 0

-- 01, Index file: "The slot of file n is VBN 2+m+n". Its LBN.
unfoldable pub slot : List ℕ → ℕ → ℕ
slot image n = part_slot (ibsz image) (index image) n

-- 01, Index file: "past the mapped blocks n has no slot". How many numbers have one.
unfoldable pub slots : List ℕ → ℕ
slots image = part_slots (ibsz image) (index image)

unfoldable pub has_slot : List ℕ → ℕ → Bool
has_slot image n = leb n (slots image)

-- The slot of n, if it has one.
unfoldable pub slot_of : List ℕ → ℕ → Option Lbn
slot_of image n = cond (has_slot image n) (Some (record { 0 = slot image n })) None

-- The header in the slot of n.
unfoldable pub header : List ℕ → ℕ → List ℕ
header image n = block image (slot image n)

-- The first test that the header in the slot of n does not meet, 0 where it is whole for n.
unfoldable pub fault_of : List ℕ → ℕ → ℕ
fault_of image n = fault (blocks image) n (header image n)

-- In use, and has a slot.
unfoldable pub is_number : List ℕ → ℕ → Bool
is_number image n = in_use image n && has_slot image n

-- How many blocks a map of n bits has. 01, Storage map file: "q = N/4096 rounded up"; Geometry: "m = H.IBSZ = H.FMAX/4096 rounded up".
unfoldable pub map_blocks : ℕ → ℕ
map_blocks n = (n + 4095) / 4096

-- 01, Storage map file: its first block, with q, "Then q blocks of bits". The LBN of the first of those.
unfoldable pub base : List ℕ → ℕ
base image = get_or (blocks_of (header image 2)) 1 0

-- The storage map: its q blocks of bits.
unfoldable pub storage_map : List ℕ → List ℕ
storage_map image = region image (base image) (map_blocks (blocks image))

-- Places with room for 256: 0 past the last.
unfoldable pub padded : List ℕ → List ℕ
padded places = places ++ zeros (256 - length places)

-- 02, 9/14: "The volume record now carries the places of all headers in the chain of file 1." The record has two parts; this is the one with the places.
unfoldable pub places_of : List ℕ → List ℕ
places_of image = padded (places image)

-- The other part: what else calls on an opened volume need to know of it, the number of those headers among it.
unfoldable pub volume_of : List ℕ → Volume
volume_of image = record {
  blocks = blocks image;
  home = record { 0 = home image };
  ibsz = ibsz image;
  iblb = record { 0 = iblb image };
  fmax = fmax image;
  base = record { 0 = base image };
  segments = length (places image);
}

-- How many bits the storage map of a volume of n blocks has.
unfoldable pub map_bits : ℕ → ℕ
map_bits n = 4096 * map_blocks n
