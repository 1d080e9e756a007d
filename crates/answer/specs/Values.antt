-- The value words of what DONE has, for the types that several calls answer with.
use Rattle.std.specs.Prelude.{ℕ, List, [], ◌∷◌}
use Rattle.answer.specs.declared.types.Lbn.{Lbn}
use Rattle.answer.specs.declared.types.FileId.{FileId}
use Rattle.answer.specs.declared.types.Name.{Name}
use Rattle.answer.specs.declared.types.Run.{Run}

-- An LBN is one word.
abbrev pub lbn_value : Lbn → List ℕ
lbn_value lbn = lbn.0 ∷ []

-- A file ID is its three words.
abbrev pub id_value : FileId → List ℕ
id_value id = id.number ∷ id.sequence ∷ id.volume ∷ []

-- Blocks in a row: the first LBN, and how many there are.
abbrev pub run_value : Run → List ℕ
run_value run = run.lbn.0 ∷ run.count ∷ []

-- A name is its five words.
abbrev pub name_value : Name → List ℕ
name_value n = n.name1 ∷ n.name2 ∷ n.name3 ∷ n.typ ∷ n.version ∷ []

-- A count is one word.
abbrev pub count_value : ℕ → List ℕ
count_value count = count ∷ []

-- Where there is nothing to tell, the value is 0.
abbrev pub bare_value : Unit {0} → List ℕ
bare_value _ = 0 ∷ []
