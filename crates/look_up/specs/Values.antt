-- The value words of a step in a directory.
use Rattle.std.specs.Prelude.{ℕ, List, [], ◌∷◌}
use Rattle.look_up.specs.declared.Step.{Step}

-- The record, its eight words; beside it stands the place to go on from.
abbrev pub step_value : Step → List ℕ
step_value s =
    s.entry.id.number
    ∷ s.entry.id.sequence
    ∷ s.entry.id.volume
    ∷ s.entry.name.name1
    ∷ s.entry.name.name2
    ∷ s.entry.name.name3
    ∷ s.entry.name.typ
    ∷ s.entry.name.version
    ∷ s.next
    ∷ []
