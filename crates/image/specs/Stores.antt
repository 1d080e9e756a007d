-- What a list of bytes holds after a store.
use Rattle.std.specs.Prelude.{ℕ, ◌+◌, ◌-◌, ◌*◌, ◌/◌, ◌%◌, ◌^◌, List, [], ◌∷◌, ◌++◌, length, take, drop, replicate, slice_set}
use Rattle.image.specs.Words.{byte_at}
use Rattle.image.specs.Bits.{bit_of}
use Rattle.image.specs.Blocks.{region}

-- The word v at a place. 01, The work and its edge: "low byte first".
unfoldable pub put_word : List ℕ → ℕ → ℕ → List ℕ
put_word b at v = slice_set (slice_set b at (v % 256)) (at + 1) (v / 256)

-- The bytes s from a place on, in the stead of as many bytes there. 01, Answer numbers: "Bytes after what is written stay."
unfoldable pub splice : List ℕ → ℕ → List ℕ → List ℕ
splice b at s = take at b ++ (s ++ drop (at + length s) b)

-- n bytes 0. 01, Create: "other bytes 0"; Delete: "its slots 0 but for the sequence word".
unfoldable pub zeros : ℕ → List ℕ
zeros n = replicate n 0

-- A byte with its bit k made v: the old bit's weight taken away, the new one's added. 01, Index file: "bit j mod 8 of byte j/8".
unfoldable pub with_bit : ℕ → ℕ → ℕ → ℕ
with_bit b k v = b - bit_of b k * 2 ^ k + v * 2 ^ k

-- A map with bit j made v. 01, Create: "The index bit is set."
unfoldable pub put_bit : List ℕ → ℕ → ℕ → List ℕ
put_bit m j v = slice_set m (j / 8) (with_bit (byte_at m (j / 8)) (j % 8) v)

-- A map with each bit of the list js made v. 01, Extend: "map bits follow"; Delete: "index bits of the whole chain clear, its blocks free".
unfoldable pub put_bits : List ℕ → List ℕ → ℕ → List ℕ
put_bits m [] v = m
put_bits m (j ∷ js) v = put_bits (put_bit m j v) js v

-- Block k made b.
unfoldable pub put_block : List ℕ → ℕ → List ℕ → List ℕ
put_block image k b = splice image (512 * k) b

-- A map lies in the q blocks from LBN k on; each of its bits in the list js made v.
unfoldable pub put_map_bits : List ℕ → ℕ → ℕ → List ℕ → ℕ → List ℕ
put_map_bits image k q js v = splice image (512 * k) (put_bits (region image k q) js v)
