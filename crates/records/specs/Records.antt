-- The records of a directory, in blocks that lie one behind the other.
use Rattle.std.specs.Prelude.{Bool, not, ◌&&◌, List, ℕ, ◌*◌, eqb, take, drop}
use Rattle.image.specs.Words.{word_at}
use Rattle.answer.specs.declared.types.Name.{Name}
use Rattle.records.specs.declared.Entry.{Entry}
use Rattle.records.specs.declared.Wanted.{Wanted}
use Rattle.records.specs.declared.Wanted.TheVariants.{Any, Named}

-- 01, Names and directories: "A directory record has 16 bytes: ID (3 words), name (3), type, version." Record i, from 0.
unfoldable pub record_in : List ℕ → ℕ → List ℕ
record_in b i = take 16 (drop (16 * i) b)

-- The ID and the name in a record.
unfoldable pub entry_of : List ℕ → Entry
entry_of r = record {
  id = record { number = word_at r 0; sequence = word_at r 2; volume = word_at r 4 };
  name = record { name1 = word_at r 6; name2 = word_at r 8; name3 = word_at r 10; typ = word_at r 12; version = word_at r 14 };
}

-- 01, Names and directories: "Number 0 means empty."
unfoldable pub is_empty : Entry → Bool
is_empty e = eqb e.id.number 0

-- Two names are equal word by word.
unfoldable pub same_name : Name → Name → Bool
same_name a b =
    eqb a.name1 b.name1
    && eqb a.name2 b.name2
    && eqb a.name3 b.name3
    && eqb a.typ b.typ
    && eqb a.version b.version

-- What is searched for. 01, Names and directories: the walker's "next record that is not empty"; look-up's "first equal record not empty".
unfoldable pub is_wanted : Wanted → Entry → Bool
is_wanted Any e = not (is_empty e)
is_wanted (Named n) e = not (is_empty e) && same_name e.name n

-- The test of a search, at record i.
unfoldable pub wanted_in : List ℕ → Wanted → ℕ → Bool
wanted_in b w i = is_wanted w (entry_of (record_in b i))
