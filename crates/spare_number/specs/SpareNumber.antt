-- The lowest spare file number.
use Rattle.std.specs.Prelude.{Bool, not, ◌&&◌, List, ℕ, ◌-◌, ltb}
use Rattle.lists.specs.First.{first}
use Rattle.header.specs.Fields.{h_fseq}
use Rattle.volume.specs.Volume.{fmax, has_slot, header, in_use}

-- 01, Create: "with bit clear, a slot, and word at byte 4 of the slot below 65,535". That word is H.FSEQ.
unfoldable pub is_spare : List ℕ → ℕ → Bool
is_spare image n = not (in_use image n) && has_slot image n && ltb (h_fseq (header image n)) 65535

-- 01, Create: "the lowest n from 6 to H.FMAX with ..". H.FMAX + 1 where there is none.
unfoldable pub spare_number : List ℕ → ℕ
spare_number image = first (is_spare image) 6 (fmax image - 5)
