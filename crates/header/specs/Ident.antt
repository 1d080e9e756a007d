-- The ident area of a header.
use Rattle.std.specs.Prelude.{List, ℕ, ◌+◌, ◌*◌}
use Rattle.image.specs.Words.{word_at}
use Rattle.answer.specs.declared.types.Name.{Name}
use Rattle.header.specs.Fields.{h_idof}

-- 000, 3.4.2: "The ident area of the file header begins at the word indicated by H.IDOF." The word k, from 0, of it.
unfoldable pub ident_word : List ℕ → ℕ → ℕ
ident_word h k = word_at h (2 * h_idof h + 2 * k)

-- 000, 3.4.2.1 to 3.4.2.3: "I.FNAM 6 bytes File Name", "I.FTYP 2 bytes File Type", "I.FVER 2 bytes Version Number".
unfoldable pub ident_name : List ℕ → Name
ident_name h = record { name1 = ident_word h 0; name2 = ident_word h 1; name3 = ident_word h 2; typ = ident_word h 3; version = ident_word h 4 }
