-- Demand 3, as one claim over every list of calls.
use Rattle.std.specs.Prelude.{◌≡◌, true, List, ℕ, ◌≤◌, ◌<◌, length, get_or}
use Rattle.image.specs.Words.{Bytes}
use Rattle.image.specs.Blocks.{block}
use Rattle.header.specs.Fields.{h_fseq}
use Rattle.home.specs.Home.{blocks}
use Rattle.volume.specs.Volume.{fmax, header}
use Rattle.chains.specs.Chains.{file_blocks}
use Rattle.verdict.specs.Verdict.{judge_answer}
use Rattle.sound.specs.Claims.{is_done, IsFile}
use Rattle.history.specs.Calls.{Call, image_after, Words, Names, Each}

-- 01, Demand 3: "An image is accepted where the verdict on it, with work areas of N and H.FMAX bytes or more and any content, answers DONE."
abbrev pub Accepted : List ℕ → Type 0
Accepted image = (area headers : List ℕ) → blocks image ≤ length area → fmax image ≤ length headers → is_done (judge_answer image area headers) ≡ true

-- 01, Demand 3: "The known files are numbers 1 to 5."
abbrev pub last_known : ℕ
last_known = 5

-- 00, 3: "Every file numbered above 5 that was in use at the start with a header of segment 0, and that no extend or delete of the list names".
pub record Protected (image : List ℕ) (calls : List Call) (f : ℕ) : Type 0 where
  pub above : last_known < f
  pub file : IsFile image f
  pub unnamed : Each (λ call. Names call f (h_fseq (header image f)) → ⊥) calls

-- 00, 3: "is in use after it and maps the same blocks in the same order with the same bytes". 01, Demand 3: "A file's blocks are the LBNs of its VBNs, from
-- 1 to the last; they and their bytes are the same before the list and after it." It is a file with the same ID, too.
pub record Same (image image' : List ℕ) (f : ℕ) : Type 0 where
  pub file : IsFile image' f
  pub sequence : h_fseq (header image' f) ≡ h_fseq (header image f)
  pub blocks : file_blocks image' f ≡ file_blocks image f
  pub bytes : (i : ℕ) → i < length (file_blocks image f) → block image' (get_or (file_blocks image f) i 0) ≡ block image (get_or (file_blocks image f) i 0)

-- Demand 3. 00, 3: "For every accepted image and every list of create, extend and delete calls on it, refused ones included, the image after the list is
-- accepted." "Every file numbered above 5 .. is in use after it and maps the same blocks in the same order with the same bytes." An image is a list of bytes.
pub record Kept (image : List ℕ) (calls : List Call) : Type 0 where
  pub accepted : Accepted (image_after calls image)
  pub files : (f : ℕ) → Protected image calls f → Same image (image_after calls image) f

abbrev pub Demand3 : Type 0
Demand3 = (image : List ℕ) → Bytes image → Accepted image → (calls : List Call) → Each Words calls → Kept image calls
