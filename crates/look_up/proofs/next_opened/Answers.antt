-- The search of the file finds the first record wanted; the laws of a walk's next record say what the answer is in each case.
use mathlib.Core.Path.{◌≡◌, sym}
use native.Mathlib.Omega.{arith}
use Rattle.records.specs.declared.Wanted.TheVariants.{Any}
use Rattle.directory.specs.Search.{first_wanted}
use Rattle.look_up.proofs.LookUpLaws.{opened-file, search-wanted, wanted-past, next-absent, next-found}
use Rattle.directory.proofs.SearchLaws.{records-inside}
use Rattle.look_up.proofs.next_opened.Goals as goal

pub returns-then-count-place : goal.returns-then-count-place
returns-then-count-place c =
    let a = c.args in
    sym (next-absent a.image.now a.id a.place c.requires.0 (omega (arith, c.requires.2, wanted-past a.image.now a.id.number Any a.place (omega (arith, c.requires.2)))))

pub search_file-found-requires : goal.search_file-found-requires
search_file-found-requires c =
    let a = c.args in
    rw c.from.ensures (opened-file a.image.now a.v a.places.now a.id c.requires.0 c.requires.1 c.requires.4, omega arith, c.requires.3)

pub returns-then-count-found : goal.returns-then-count-found
returns-then-count-found c =
    let a = c.args in
    let e : c.search_file-found.result ≡ first_wanted a.image.now a.id.number Any a.place =
    search-wanted a.image.now a.id.number Any a.place a.count _ c.requires.2 (rw c.from.ensures at c.search_file-found.ensures.0) in
    sym (next-absent a.image.now a.id a.place c.requires.0 (omega (arith, e, c.requires.2)))

pub entry_of_file-requires : goal.entry_of_file-requires
entry_of_file-requires c =
    let a = c.args in
    rw c.from.ensures (opened-file a.image.now a.v a.places.now a.id c.requires.0 c.requires.1 c.requires.4, omega (arith, c.requires.2, records-inside a.image.now a.id.number), c.requires.3)

pub returns : goal.returns
returns c =
    let a = c.args in
    let e : c.search_file-found.result ≡ first_wanted a.image.now a.id.number Any a.place =
    search-wanted a.image.now a.id.number Any a.place a.count _ c.requires.2 (rw c.from.ensures at c.search_file-found.ensures.0) in
    rw (next-found a.image.now a.id a.place c.requires.0 c.search_file-found.result e (omega (arith, c.requires.2)), c.entry_of_file.ensures, c.from.ensures)
