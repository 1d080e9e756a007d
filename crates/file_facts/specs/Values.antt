-- The value words of what a file says of itself.
use Rattle.std.specs.Prelude.{ℕ, List, [], ◌∷◌}
use Rattle.file_facts.specs.declared.types.Attributes.{Attributes}

-- Block count, bytes before the end of file, H.FOWN, H.FPRO, H.FCHA, F.RTYP with F.RATT, F.RSIZ, F.HIBK, F.EFBK, F.FFBY.
abbrev pub attributes_value : Attributes → List ℕ
attributes_value f =
    f.blocks
    ∷ f.end
    ∷ f.owner
    ∷ f.protection
    ∷ f.flags
    ∷ f.record_type
    ∷ f.record_size
    ∷ f.highest.0
    ∷ f.end_block.0
    ∷ f.first_free
    ∷ []
