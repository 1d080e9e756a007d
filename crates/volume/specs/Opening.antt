-- Opening a volume: SIZE, HOME, GEOMETRY, INDEX, STORAGE, in this order.
use Rattle.std.specs.Prelude.{◌≡◌, Bool, true, false, cond, Option, MatchOption, ◌&&◌, ◌||◌, List, ℕ, ◌+◌, ◌*◌, ◌-◌, ◌≤◌, ◌<◌, eqb, leb, ltb, length, get_or, Ok}
use Rattle.lists.specs.First.{below}
use Rattle.image.specs.Words.{byte_at}
use Rattle.image.specs.Blocks.{block}
use Rattle.answer.specs.declared.refusal.Refusal.TheVariants as refusal
use Rattle.answer.specs.Outcome.{unless, ◌then◌, Outcome}
use Rattle.header.specs.Fields.{h_fseq, segment, m_efnu}
use Rattle.pointers.specs.Pointers.{pointer_count, pointers_at, pointers, Fits, blocks_of}
use Rattle.whole.specs.Whole.{fault}
use Rattle.home.specs.Home.{blocks, positions, home_index, home}
use Rattle.volume.specs.Volume.{ibsz, iblb, fmax, index_header, places, index_ends, padded, places_of, header, map_blocks, volume_of}
use Rattle.volume.specs.declared.Volume.{Volume}

-- 01, The work and its edge: "a lent image of 512·N bytes, N from 100 to 1,044,480, else SIZE".
unfoldable pub sized : List ℕ → Bool
sized image = eqb (length image) (512 * blocks image) && leb 100 (blocks image) && leb (blocks image) 1044480

-- 01, Home block: one of the positions has it.
unfoldable pub homed : List ℕ → Bool
homed image = ltb (home_index image) (positions (blocks image))

-- 01, Geometry: "H.FMAX at least 16; m = H.IBSZ = H.FMAX/4096 rounded up; H.IBLB + m + 16 ≤ N."
unfoldable pub geometry : List ℕ → Bool
geometry image = leb 16 (fmax image) && eqb (ibsz image) (map_blocks (fmax image)) && leb (iblb image + ibsz image + 16) (blocks image)

-- 01, Index file and Storage map file: "whole, ID 1,1, segment 0"; "whole, ID 2,2, segment 0". Header h is so for number n.
unfoldable pub heads : ℕ → ℕ → List ℕ → Bool
heads blocks n h = eqb (fault blocks n h) 0 && eqb (h_fseq h) n && eqb (segment h) 0

-- 01, Storage map file: "no extension".
unfoldable pub alone : ℕ → ℕ → List ℕ → Bool
alone blocks n h = heads blocks n h && eqb (m_efnu h) 0

-- 01, Index file: "Its VBN 1 maps to LBN 0, VBN 2 to the home, VBN 3 to m+18 to H.IBLB onward." The LBN of block i, from 0.
unfoldable pub index_lbn : ℕ → ℕ → ℕ → ℕ
index_lbn home iblb i = cond (eqb i 0) 0 (cond (eqb i 1) home (iblb + (i - 2)))

-- Block i, from 0, of a list of LBNs is the index file's.
unfoldable pub index_at : ℕ → ℕ → List ℕ → ℕ → Bool
index_at home iblb lbns i = eqb (get_or lbns i 0) (index_lbn home iblb i)

-- 01, Index file: what the list of its LBNs must begin with, VBN 1 to m+18.
unfoldable pub index_mapped : ℕ → ℕ → ℕ → List ℕ → Bool
index_mapped home iblb m lbns = leb (m + 18) (length lbns) && below (m + 18) (index_at home iblb lbns)

-- 01, Index file: "It must be whole, ID 1,1, segment 0". 02, 9/14: "The first segment must still map VBN 1 to m+18. Refusals: INDEX also for a bad
-- link or a slot not yet mapped; no longer for an extension as such."
unfoldable pub indexed : List ℕ → Bool
indexed image =
    heads (blocks image) 1 (index_header image)
    && index_mapped (home image) (iblb image) (ibsz image) (blocks_of (index_header image))
    && index_ends image

-- 01, Storage map file: "maps exactly 1+q blocks, .. by one pointer, or by two of which the first maps one block".
unfoldable pub storage_mapped : ℕ → List ℕ → Bool
storage_mapped q h = eqb (length (blocks_of h)) (1 + q) && (eqb (pointers h) 1 || (eqb (pointers h) 2 && eqb (pointer_count h (pointers_at h)) 1))

-- 01, Storage map file: "Header 2, whole, ID 2,2, segment 0, no extension, maps exactly 1+q blocks, .. Byte 3 of its first block is q".
unfoldable pub stored : List ℕ → Bool
stored image =
    alone (blocks image) 2 (header image 2)
    && storage_mapped (map_blocks (blocks image)) (header image 2)
    && eqb (byte_at (block image (get_or (blocks_of (header image 2)) 0 0)) 3) (map_blocks (blocks image))

-- 01, Answer numbers: "1 SIZE, 2 HOME, 3 GEOMETRY, 4 INDEX, 5 STORAGE | opening, in this order".
unfoldable pub open_volume : List ℕ → Outcome
open_volume image =
    unless (sized image) refusal.Size
    then unless (homed image) refusal.Home
    then unless (geometry image) refusal.Geometry
    then unless (indexed image) refusal.Index
    then unless (stored image) refusal.Storage

-- The index map has a bit for every number, and lies in the image.
abbrev pub HasIndexMap : List ℕ → Type 0
HasIndexMap image = (fmax image ≤ 4096 * ibsz image) × (512 * (iblb image + ibsz image) ≤ length image)

-- The headers at the first k of these LBNs have their pointers in them.
abbrev pub FirstFit : List ℕ → List ℕ → ℕ → Type 0
FirstFit image at k = (j : ℕ) → j < k → Fits (block image (get_or at j 0))

-- What a walk along the index file's headers comes to: how many they are and where they lie, and nothing where a link is bad.
abbrev pub Walked : List ℕ → Option ℕ → List ℕ → Type 0
Walked image found at =
    MatchOption found
    (index_ends image ≡ false)
    (λ count. (index_ends image ≡ true) × (count ≡ length (places image)) × (at ≡ padded (places image)))

-- The image opens, and v is what calls on it need to know, but for the places of the index file's headers.
abbrev pub Open : List ℕ → Volume → Type 0
Open image v = (open_volume image ≡ Ok tt) × (v ≡ volume_of image)

-- The image opens, and v and at are the two parts of its volume record.
abbrev pub Recorded : List ℕ → Volume → List ℕ → Type 0
Recorded image v at = (open_volume image ≡ Ok tt) × (v ≡ volume_of image) × (at ≡ places_of image)

-- What v says of the image, but for the storage map.
pub record Laid (image : List ℕ) (v : Volume) : Type 0 where
  pub blocks : v.blocks ≡ blocks image
  pub home : v.home.0 ≡ home image
  pub ibsz : v.ibsz ≡ ibsz image
  pub iblb : v.iblb.0 ≡ iblb image
  pub fmax : v.fmax ≡ fmax image
