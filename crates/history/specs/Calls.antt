-- Lists of create, extend and delete calls, each on the image that the last one left.
use Rattle.answer.specs.Outcome.{Outcome}
use Rattle.std.specs.Prelude.{◌≡◌, List, [], ◌∷◌, ℕ, ◌<◌, length}
use Rattle.answer.specs.declared.types.FileId.{FileId}
use Rattle.answer.specs.declared.types.Name.{Name}
use Rattle.update.specs.Create.{create_outcome, create_image}
use Rattle.update.specs.Extend.{extend_outcome, extend_image}
use Rattle.update.specs.Delete.{delete_outcome, delete_image}

-- 01, Demand 3: "create, extend and delete calls .., each with arguments of its own and work areas of any length and content". Of each call the last two
-- arguments are its work areas, for block marks and for header marks.
pub data Call : Type 0 where
  -- A name, the owner and the protection.
  create : Name → ℕ → ℕ → List ℕ → List ℕ → Call
  -- An ID, and how many blocks.
  extend : FileId → ℕ → List ℕ → List ℕ → Call
  delete : FileId → List ℕ → List ℕ → Call

-- What a call comes to on an image: passed, or refused.
unfoldable pub outcome_of : Call → List ℕ → Outcome
outcome_of (create name owner protection area headers) image = create_outcome image name (length area) (length headers)
outcome_of (extend id c area headers) image = extend_outcome image id c (length area) (length headers)
outcome_of (delete id area headers) image = delete_outcome image id (length area) (length headers)

-- The image that a call leaves.
unfoldable pub step : Call → List ℕ → List ℕ
step (create name owner protection area headers) image = create_image image name owner protection (length area) (length headers)
step (extend id c area headers) image = extend_image image id c (length area) (length headers)
step (delete id area headers) image = delete_image image id (length area) (length headers)

-- 00, 3: "Each call gets the image that the last one left, and nobody else writes it meanwhile."
unfoldable pub image_after : List Call → List ℕ → List ℕ
image_after [] image = image
image_after (call ∷ calls) image = image_after calls (step call image)

-- A word is 16 bits. 01, The work and its edge: "Words are two bytes".
abbrev pub Word : ℕ → Type 0
Word w = w < 65536

-- The arguments of a create that are stored on the disk are words: its name's five, "owner and protection words". All others are only read.
abbrev pub Words : Call → Type 0
Words (create name owner protection area headers) =
    (Word name.name1 × Word name.name2 × Word name.name3 × Word name.typ × Word name.version) × Word owner × Word protection
Words (extend id c area headers) = Unit {0}
Words (delete id area headers) = Unit {0}

-- 01, Demand 3: "A call names a file where its ID has the number and the H.FSEQ that the file had at the start." A create has no ID.
abbrev pub Names : Call → ℕ → ℕ → Type 0
Names (create name owner protection area headers) number sequence = ⊥
Names (extend id c area headers) number sequence = (id.number ≡ number) × (id.sequence ≡ sequence)
Names (delete id area headers) number sequence = (id.number ≡ number) × (id.sequence ≡ sequence)

-- Each call of a list.
abbrev pub Each : (Call → Type 0) → List Call → Type 0
Each P [] = Unit {0}
Each P (call ∷ calls) = P call × Each P calls
