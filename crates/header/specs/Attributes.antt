-- The attributes that FCS keeps in the attribute area of a first header (000, 6.1), and the end of file that they give.
use Rattle.std.specs.Prelude.{cond, List, ℕ, ◌+◌, ◌*◌, ◌-◌, min, eqb}
use Rattle.image.specs.Words.{word_at}

-- 01, The header: "attributes 14 to 45". 000, 6.2: F.RTYP and F.RATT are the bytes of its first word.
unfoldable pub f_rtyp_ratt : List ℕ → ℕ
f_rtyp_ratt h = word_at h 14

-- 000, 6.1.3: "F.RSIZ 2 bytes Record Size".
unfoldable pub f_rsiz : List ℕ → ℕ
f_rsiz h = word_at h 16

-- 000, 6.1.5: "Both F.HIBK and F.EFBK are stored with the high order half in the first two bytes, followed by the low order half."
unfoldable pub f_hibk : List ℕ → ℕ
f_hibk h = 65536 * word_at h 18 + word_at h 20

unfoldable pub f_efbk : List ℕ → ℕ
f_efbk h = 65536 * word_at h 22 + word_at h 24

-- 000, 6.1.6: "F.FFBY 2 bytes First Free Byte".
unfoldable pub f_ffby : List ℕ → ℕ
f_ffby h = word_at h 26

-- The end of file: how many bytes lie before it. 000, 6.1.5 and 6.1.6: it lies in VBN F.EFBK, and F.FFBY is "the number of bytes in use in the virtual
-- block containing the end of file". Where F.EFBK is 0, which no VBN is, this says nothing, and each that asks has a rule of its own.
unfoldable pub end_byte : List ℕ → ℕ
end_byte h = 512 * (f_efbk h - 1) + f_ffby h

-- How many bytes of a file of so many blocks, whose first header is h, lie before its end. An end past the last block counts as the end of that, and
-- where F.EFBK is 0 the attributes give no end and all blocks count.
unfoldable pub end_of : List ℕ → ℕ → ℕ
end_of h count = cond (eqb (f_efbk h) 0) (512 * count) (min (end_byte h) (512 * count))
