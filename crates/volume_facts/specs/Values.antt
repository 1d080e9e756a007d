-- The value words of what a volume says of itself.
use Rattle.std.specs.Prelude.{ℕ, List, [], ◌∷◌}
use Rattle.volume_facts.specs.declared.types.Geometry.{Geometry}
use Rattle.volume_facts.specs.declared.types.Label.{Label}

-- N, the home's LBN, H.IBSZ, H.IBLB, H.FMAX, how many numbers have a slot, LBN and number of the blocks of the storage map's bits, H.VLEV, how many
-- headers the index file has.
abbrev pub geometry_value : Geometry → List ℕ
geometry_value g =
    g.blocks
    ∷ g.home.0
    ∷ g.ibsz
    ∷ g.iblb.0
    ∷ g.fmax
    ∷ g.slots
    ∷ g.map.0
    ∷ g.map_blocks
    ∷ g.vlev
    ∷ g.index_headers
    ∷ []

-- The six words of H.VNAM, H.VOWN, H.VPRO, H.VCHA, H.DFPR.
abbrev pub label_value : Label → List ℕ
label_value l =
    l.name1
    ∷ l.name2
    ∷ l.name3
    ∷ l.name4
    ∷ l.name5
    ∷ l.name6
    ∷ l.owner
    ∷ l.protection
    ∷ l.characteristics
    ∷ l.default_protection
    ∷ []
