-- What extend's stores need.
use Rattle.std.specs.Prelude.{List, ℕ, ◌+◌, ◌≤◌, ◌<◌}
use Rattle.image.specs.Blocks.{block}
use Rattle.header.specs.Fields.{h_mpof, m_use, m_max}
use Rattle.home.specs.Home.{blocks}
use Rattle.volume.specs.Volume.{map_blocks, base}

-- The header at LBN k has room for a pointer and lies off the storage map, and the c blocks from LBN s on lie on the volume.
pub record Takes (image : List ℕ) (k s c : ℕ) : Type 0 where
  pub inside : k < blocks image
  pub apart : base image ≤ k → k < base image + map_blocks (blocks image) → ⊥
  pub area : h_mpof (block image k) + 5 + m_max (block image k) ≤ 255
  pub room : m_use (block image k) + 2 ≤ m_max (block image k)
  pub least : 1 ≤ c
  pub most : c ≤ 256
  pub fits : s + c ≤ blocks image
