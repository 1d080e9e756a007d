-- The blocks of an image.
use Rattle.std.specs.Prelude.{ℕ, ◌*◌, List, take, drop}

-- 01, The work and its edge: "a lent image of 512·N bytes"; "logical block numbers (LBN, from 0)".
-- The bytes of the q blocks from LBN k on: what a map of several blocks is read from.
unfoldable pub region : List ℕ → ℕ → ℕ → List ℕ
region image k q = take (512 * q) (drop (512 * k) image)

-- The bytes of the block with LBN k. 01, Names and directories: "A block is answered as the image's own 512 bytes".
unfoldable pub block : List ℕ → ℕ → List ℕ
block image k = take 512 (drop (512 * k) image)
