-- File IDs and names, as the exported calls take them: word by word.
use Rattle.std.specs.Prelude.{ℕ}
use Rattle.answer.specs.declared.types.FileId.{FileId}
use Rattle.answer.specs.declared.types.Name.{Name}

-- A file ID of its three words.
abbrev pub id_of : ℕ → ℕ → ℕ → FileId
id_of number sequence volume = record { number = number; sequence = sequence; volume = volume }

-- 01, The work and its edge: "take a name as its five words".
abbrev pub of_words : ℕ → ℕ → ℕ → ℕ → ℕ → Name
of_words name1 name2 name3 typ version = record { name1 = name1; name2 = name2; name3 = name3; typ = typ; version = version }
