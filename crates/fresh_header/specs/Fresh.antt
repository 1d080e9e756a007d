-- The header of a new file.
use Rattle.std.specs.Prelude.{List, ℕ, set}
use Rattle.image.specs.Stores.{put_word, zeros}
use Rattle.image.specs.Sums.{checksum}
use Rattle.answer.specs.declared.types.Name.{Name}

-- 01, Checksum: "The sum of the first 255 words, kept to 16 bits, equals word 255". A header with its checksum made right.
unfoldable pub sealed : List ℕ → List ℕ
sealed h = put_word h 510 (checksum h 255)

-- 01, Create: "Header: H.IDOF 23, H.MPOF 46, H.FNUM n, H.FSEQ the sequence, H.FLEV 257, the given owner and protection words at H.FOWN and H.FPRO".
unfoldable pub identified : List ℕ → ℕ → ℕ → ℕ → ℕ → List ℕ
identified h n sequence owner protection =
    put_word (put_word (put_word (put_word (put_word (set (set h 0 23) 1 46) 2 n) 4 sequence) 6 257) 8 owner) 10 protection

-- 01, Create: "name at byte 46, type 52, version 54".
unfoldable pub named : List ℕ → Name → List ℕ
named h name = put_word (put_word (put_word (put_word (put_word h 46 name.name1) 48 name.name2) 50 name.name3) 52 name.typ) 54 name.version

-- 01, Create: "M.CTSZ 1, M.LBSZ 3, M.MAX 204". The map area begins at byte 92, since H.MPOF is 46.
unfoldable pub mapped : List ℕ → List ℕ
mapped h = set (set (set h 98 1) 99 3) 101 204

-- 01, Create: "Header: .. checksum; other bytes 0."
unfoldable pub fresh_header : ℕ → ℕ → ℕ → ℕ → Name → List ℕ
fresh_header n sequence owner protection name = sealed (mapped (named (identified (zeros 512) n sequence owner protection) name))
