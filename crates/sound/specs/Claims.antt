-- What is claimed of the verdict and of sound images, as types. 00, 3; 01, Demand 3.
use Rattle.verdict.specs.declared.Counts.{Counts}
use Rattle.answer.specs.Outcome.{Answer}
use Rattle.std.specs.Prelude.{◌≡◌, Bool, true, false, List, ℕ, ◌+◌, ◌≤◌, ◌<◌, length, get_or, Ok, Err}
use Rattle.header.specs.Fields.{segment}
use Rattle.home.specs.Home.{blocks, position, home_index, home}
use Rattle.volume.specs.Volume.{ibsz, iblb, fmax, slot, slots, header, in_use, map_blocks, base}
use Rattle.volume.specs.Opening.{open_volume}
use Rattle.chains.specs.Chains.{file_blocks}
use Rattle.verdict.specs.Verdict.{claimed, free, judge_answer}
use Rattle.sound.specs.Sound.{BlockOf, Safe, Sound}

-- The verdict answers DONE.
abbrev pub is_done : Answer Counts → Bool
is_done (Ok counts) = true
is_done (Err r) = false

-- 01, Demand 3: "An image is accepted where the verdict on it, with work areas of N and H.FMAX bytes or more and any content, answers DONE. It opens
-- where none of 1 to 5 is given." 00, 3: "the verdict accepts an image exactly when it opens and is sound".
pub record Exactly (image area headers : List ℕ) : Type 0 where
  pub only : is_done (judge_answer image area headers) ≡ true → (open_volume image ≡ Ok tt) × Sound image
  pub always : open_volume image ≡ Ok tt → Sound image → is_done (judge_answer image area headers) ≡ true

abbrev pub VerdictExact : Type 0
VerdictExact = (image area headers : List ℕ) → blocks image ≤ length area → fmax image ≤ length headers → Exactly image area headers

-- 01, What would not satisfy us: "claimed counts the covered LBNs, free the set bits, and on an accepted image they add to N".
abbrev pub CountsAdd : Type 0
CountsAdd = (image : List ℕ) → Sound image → claimed image + free image ≡ blocks image

-- A file: a number in use with a header of segment 0.
pub record IsFile (image : List ℕ) (n : ℕ) : Type 0 where
  pub used : in_use image n ≡ true
  pub first : segment (header image n) ≡ 0

-- What an image that opens and is safe gives to those who write to it, whatever its storage map says: all blocks of all files are pairwise different,
-- and boot block, home, index map and slots are blocks of file 1, the storage map is blocks of file 2, and the home positions passed over are blocks of
-- file 3.
pub record Apart (image : List ℕ) : Type 0 where
  pub different : (f g i j : ℕ) → IsFile image f → IsFile image g → i < length (file_blocks image f) → j < length (file_blocks image g)
      → get_or (file_blocks image f) i 0 ≡ get_or (file_blocks image g) j 0 → (f ≡ g) × (i ≡ j)
  pub inside : (f i : ℕ) → IsFile image f → i < length (file_blocks image f) → get_or (file_blocks image f) i 0 < blocks image
  pub index-long : length (file_blocks image 1) ≡ 2 + ibsz image + slots image
  pub boot : get_or (file_blocks image 1) 0 0 ≡ 0
  pub home : get_or (file_blocks image 1) 1 0 ≡ home image
  pub index-map : (i : ℕ) → i < ibsz image → get_or (file_blocks image 1) (2 + i) 0 ≡ iblb image + i
  pub slot : (n : ℕ) → 1 ≤ n → n ≤ slots image → get_or (file_blocks image 1) (1 + ibsz image + n) 0 ≡ slot image n
  pub storage-long : length (file_blocks image 2) ≡ 1 + map_blocks (blocks image)
  pub storage-map : (i : ℕ) → i < map_blocks (blocks image) → get_or (file_blocks image 2) (1 + i) 0 ≡ base image + i
  pub passed : (i : ℕ) → i < home_index image → BlockOf image 3 (position i)

abbrev pub BlocksApart : Type 0
BlocksApart = (image : List ℕ) → open_volume image ≡ Ok tt → Safe image → Apart image
