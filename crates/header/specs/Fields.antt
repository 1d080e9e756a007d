-- The fields of a header, on its own 512 bytes.
use Rattle.std.specs.Prelude.{List, ℕ, ◌+◌, ◌*◌}
use Rattle.image.specs.Words.{byte_at, word_at}

-- 01, The header: "Bytes: H.IDOF 0, H.MPOF 1, H.FNUM 2, H.FSEQ 4, H.FLEV 6, .. user flags 12, system flags 13".
unfoldable pub h_idof : List ℕ → ℕ
h_idof h = byte_at h 0

unfoldable pub h_mpof : List ℕ → ℕ
h_mpof h = byte_at h 1

unfoldable pub h_fnum : List ℕ → ℕ
h_fnum h = word_at h 2

unfoldable pub h_fseq : List ℕ → ℕ
h_fseq h = word_at h 4

unfoldable pub h_flev : List ℕ → ℕ
h_flev h = word_at h 6

unfoldable pub user_flags : List ℕ → ℕ
user_flags h = byte_at h 12

unfoldable pub system_flags : List ℕ → ℕ
system_flags h = byte_at h 13

-- 01, The header: "Map area at byte 2·H.MPOF: segment number 0, M.ERVN 1, M.EFNU 2, M.EFSQ 4, M.CTSZ 6, M.LBSZ 7, M.USE 8, M.MAX 9". A byte
-- past the header's end counts as 0; a whole header has none such.
unfoldable pub map_area : List ℕ → ℕ
map_area h = 2 * h_mpof h

unfoldable pub segment : List ℕ → ℕ
segment h = byte_at h (map_area h)

unfoldable pub m_ervn : List ℕ → ℕ
m_ervn h = byte_at h (map_area h + 1)

unfoldable pub m_efnu : List ℕ → ℕ
m_efnu h = word_at h (map_area h + 2)

unfoldable pub m_efsq : List ℕ → ℕ
m_efsq h = word_at h (map_area h + 4)

unfoldable pub m_ctsz : List ℕ → ℕ
m_ctsz h = byte_at h (map_area h + 6)

unfoldable pub m_lbsz : List ℕ → ℕ
m_lbsz h = byte_at h (map_area h + 7)

unfoldable pub m_use : List ℕ → ℕ
m_use h = byte_at h (map_area h + 8)

unfoldable pub m_max : List ℕ → ℕ
m_max h = byte_at h (map_area h + 9)

-- 01, The header: "H.FOWN 8, H.FPRO 10, user flags 12, system flags 13". The two flag bytes are one word, H.FCHA (000, 3.4.1.8).
unfoldable pub h_fown : List ℕ → ℕ
h_fown h = word_at h 8

unfoldable pub h_fpro : List ℕ → ℕ
h_fpro h = word_at h 10

unfoldable pub h_fcha : List ℕ → ℕ
h_fcha h = word_at h 12
