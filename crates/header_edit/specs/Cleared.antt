-- The slot of a header that is deleted.
use Rattle.std.specs.Prelude.{List, ℕ}
use Rattle.image.specs.Stores.{put_word, zeros}
use Rattle.header.specs.Fields.{h_fseq}

-- 01, Delete: "its slots 0 but for the sequence word".
unfoldable pub cleared_slot : List ℕ → List ℕ
cleared_slot h = put_word (zeros 512) 4 (h_fseq h)
