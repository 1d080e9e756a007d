-- The records of a directory, and a search among those of some blocks.
use Rattle.std.specs.Prelude.{◌≡◌, Bool, true, cond, List, [], ◌∷◌, ℕ, zero, suc, ◌+◌, ◌*◌, ◌-◌, ◌/◌, ◌%◌, min, ◌≤◌, ◌<◌, length, get_or}
use Rattle.lists.specs.First.{first}
use Rattle.image.specs.Blocks.{block}
use Rattle.pointers.specs.Pointers.{pointer_lbn, pointer_count, pointers_at, pointers}
use Rattle.records.specs.Records.{record_in, entry_of, is_empty, is_wanted}
use Rattle.records.specs.declared.Entry.{Entry}
use Rattle.records.specs.declared.Wanted.{Wanted}
use Rattle.home.specs.Home.{blocks}
use Rattle.volume.specs.Opening.{Recorded}
use Rattle.volume.specs.declared.Volume.{Volume}
use Rattle.chains.specs.Chains.{good_chain, IsFirst, file_blocks}

-- 01, Names and directories: "Every mapped block holds 32 records." Record r, from 0, of the blocks in a list of LBNs, "in VBN order".
unfoldable pub entry_at : List ℕ → List ℕ → ℕ → Entry
entry_at image lbns r = entry_of (record_in (block image (get_or lbns (r / 32) 0)) (r % 32))

unfoldable pub wanted_at : List ℕ → List ℕ → Wanted → ℕ → Bool
wanted_at image lbns w r = is_wanted w (entry_at image lbns r)

-- How many records the directory has whose first header has number n.
unfoldable pub record_count : List ℕ → ℕ → ℕ
record_count image n = 32 * length (file_blocks image n)

-- 01, Names and directories: "the first equal record not empty, in VBN order", and the walker's "next record". The first record wanted of those,
-- from one place to before another, that the blocks in a list of LBNs hold; where there is none, the place where these end.
unfoldable pub search_in : List ℕ → List ℕ → Wanted → ℕ → ℕ → ℕ
search_in image lbns w from to = first (wanted_at image lbns w) from (min to (32 * length lbns) - from)

-- 01, The header: "each pointer ends below N". So the blocks of header h lie in the image.
abbrev pub Inside : List ℕ → List ℕ → Type 0
Inside image h = (p : ℕ) → p < pointers h → pointer_lbn h (pointers_at h + 4 * p) + pointer_count h (pointers_at h + 4 * p) ≤ blocks image

-- 01, The work and its edge: "Every call on a volume opens it first". The image opens as v, and so does the file whose first header has number n.
abbrev pub FileOpen : List ℕ → Volume → List ℕ → ℕ → Type 0
FileOpen image v at n = Recorded image v at × IsFirst image n × (good_chain image n ≡ true)

-- The first record wanted from a place on, of the directory whose first header has number n; not below the record count where there is none.
unfoldable pub first_wanted : List ℕ → ℕ → Wanted → ℕ → ℕ
first_wanted image n w place = first (wanted_at image (file_blocks image n) w) place (record_count image n - place)

-- The entry in record r of the directory.
unfoldable pub entry_of_file : List ℕ → ℕ → ℕ → Entry
entry_of_file image n r = entry_at image (file_blocks image n) r

-- The entries in those of the d records from a place on that are not empty, in order.
unfoldable pub filled_from : List ℕ → ℕ → ℕ → ℕ → List Entry
filled_from image n place zero = []
filled_from image n place (suc d) =
    let e = entry_of_file image n place in
    let on = filled_from image n (place + 1) d in
    cond (is_empty e) on (e ∷ on)
