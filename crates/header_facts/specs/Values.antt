-- The value words of what a header says.
use Rattle.std.specs.Prelude.{ℕ, List, [], ◌∷◌}
use Rattle.header_facts.specs.declared.types.Header.{Header}

-- H.FSEQ, segment number, M.EFNU, M.EFSQ, how many retrieval pointers, and the five words of the name in the ident area.
abbrev pub header_value : Header → List ℕ
header_value f =
    f.sequence
    ∷ f.segment
    ∷ f.next
    ∷ f.next_sequence
    ∷ f.pointers
    ∷ f.name.name1
    ∷ f.name.name2
    ∷ f.name.name3
    ∷ f.name.typ
    ∷ f.name.version
    ∷ []
