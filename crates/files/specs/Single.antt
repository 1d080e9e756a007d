-- Volumes on which each header in use is the only one of its file.
use Rattle.std.specs.Prelude.{◌≡◌, Bool, true, ◌&&◌, List, ℕ, ◌<◌, eqb}
use Rattle.header.specs.Fields.{segment, m_efnu}
use Rattle.volume.specs.Volume.{header, in_use}

-- A header that links to none and stands first: it is the only one of its file, unless another links to it.
unfoldable pub is_single : List ℕ → Bool
is_single h = eqb (m_efnu h) 0 && eqb (segment h) 0

-- The same for the headers in use of numbers below n.
abbrev pub UnlinkedBelow : List ℕ → ℕ → Type 0
UnlinkedBelow image n = (m : ℕ) → m < n → in_use image m ≡ true → is_single (header image m) ≡ true

-- No header in use links to another, and none stands behind another: each is the only one of its file.
pub record Unlinked (image : List ℕ) : Type 0 where
  pub ends : (n : ℕ) → in_use image n ≡ true → m_efnu (header image n) ≡ 0
  pub first : (n : ℕ) → in_use image n ≡ true → segment (header image n) ≡ 0
