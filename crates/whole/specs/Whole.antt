-- Whether a header is whole, and if not, the first test that it does not meet.
-- "Whole" is 01's word for a header that can be relied on.
use Rattle.std.specs.Prelude.{Bool, cond, not, ◌&&◌, ◌||◌, List, [], ◌∷◌, ℕ, ◌+◌, ◌*◌, ◌%◌, eqb, leb}
use Rattle.image.specs.Words.{word_at}
use Rattle.image.specs.Sums.{checksum}
use Rattle.lists.specs.First.{below}
use Rattle.header.specs.Fields.{h_idof, h_mpof, h_fnum, h_flev, m_ervn, m_efnu, m_efsq, m_ctsz, m_lbsz, m_use, m_max}
use Rattle.pointers.specs.Pointers.{pointer_lbn, pointer_count, pointers_at, pointers}

-- 01, The header: "each pointer ends below N". Pointer p, from 0, on a volume of that many blocks.
unfoldable pub ends_inside : ℕ → List ℕ → ℕ → Bool
ends_inside blocks h p = leb (pointer_lbn h (pointers_at h + 4 * p) + pointer_count h (pointers_at h + 4 * p)) blocks

-- 01, The header: "M.EFSQ 0 where M.EFNU is 0; each pointer ends below N." The tests 11 and 12, on the map area.
unfoldable pub link_tests : ℕ → List ℕ → List Bool
link_tests blocks h = (not (eqb (m_efnu h) 0) || eqb (m_efsq h) 0) ∷ below (pointers h) (ends_inside blocks h) ∷ []

-- 01, The header: "H.MPOF+5+M.MAX ≤ 255; M.USE even and ≤ M.MAX; M.CTSZ 1, M.LBSZ 3, M.ERVN 0; ..". The tests 6 to 12, on the map area.
unfoldable pub map_tests : ℕ → List ℕ → List Bool
map_tests blocks h =
    leb (h_mpof h + 5 + m_max h) 255
    ∷ (eqb (m_use h % 2) 0 && leb (m_use h) (m_max h))
    ∷ eqb (m_ctsz h) 1
    ∷ eqb (m_lbsz h) 3
    ∷ eqb (m_ervn h) 0
    ∷ link_tests blocks h

-- 01, The header: "Whole for n: checksum right; H.FLEV 257; H.FNUM n; H.IDOF ≥ 23; H.MPOF ≥ H.IDOF; ..". The twelve tests, in this order.
unfoldable pub tests : ℕ → ℕ → List ℕ → List Bool
tests blocks n h =
    eqb (checksum h 255) (word_at h 510)
    ∷ eqb (h_flev h) 257
    ∷ eqb (h_fnum h) n
    ∷ leb 23 (h_idof h)
    ∷ leb (h_idof h) (h_mpof h)
    ∷ map_tests blocks h

-- The number of the first test of a row that is not met, where the first is number t; 0 where all are met.
unfoldable pub first_unmet : ℕ → List Bool → ℕ
first_unmet t [] = 0
first_unmet t (met ∷ rest) =
    let on = first_unmet (t + 1) rest in
    cond met on t

-- 02, 3/14: "the first unmet test, 1 to 12 in the order of document 01's list". 0 is whole for n, on a volume of that many blocks.
unfoldable pub fault : ℕ → ℕ → List ℕ → ℕ
fault blocks n h = first_unmet 1 (tests blocks n h)

-- 01, The header: "Whole for n".
unfoldable pub whole : ℕ → ℕ → List ℕ → Bool
whole blocks n h = eqb (fault blocks n h) 0
