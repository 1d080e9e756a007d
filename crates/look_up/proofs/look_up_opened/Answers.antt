-- The search of the file finds the first record wanted; the laws of looking up say what the answer is in each case.
use mathlib.Core.Path.{◌≡◌, sym, ◌∙◌}
use native.Mathlib.Omega.{arith}
use Rattle.records.specs.declared.Wanted.TheVariants.{Named}
use Rattle.directory.specs.Search.{first_wanted}
use Rattle.look_up.proofs.LookUpLaws.{opened-file, search-wanted, look-improper, look-absent, look-found}
use Rattle.directory.proofs.SearchLaws.{records-inside}
use Rattle.look_up.proofs.look_up_opened.Goals as goal

pub returns-then-not-is_proper : goal.returns-then-not-is_proper
returns-then-not-is_proper c =
    sym (look-improper c.args.image.now c.args.id c.args.name c.requires.0 (sym c.is_proper.ensures ∙ c.if-not-is_proper.true))

pub search_file-r-requires : goal.search_file-r-requires
search_file-r-requires c =
    let a = c.args in
    rw c.from.ensures (opened-file a.image.now a.v a.places.now a.id c.requires.0 c.requires.1 c.requires.4, omega arith, c.requires.3)

pub returns-then-count-r : goal.returns-then-count-r
returns-then-count-r c =
    let a = c.args in
    let found : c.search_file-r.result ≡ first_wanted a.image.now a.id.number (Named a.name) 0 =
    search-wanted a.image.now a.id.number (Named a.name) 0 a.count _ c.requires.2 (rw c.from.ensures at c.search_file-r.ensures.0) in
    sym (look-absent a.image.now a.id a.name c.requires.0 (sym c.is_proper.ensures ∙ c.if-not-is_proper.false) (omega (arith, found, c.requires.2)))

pub entry_of_file-e-requires : goal.entry_of_file-e-requires
entry_of_file-e-requires c =
    let a = c.args in
    rw c.from.ensures (opened-file a.image.now a.v a.places.now a.id c.requires.0 c.requires.1 c.requires.4, omega (arith, c.requires.2, records-inside a.image.now a.id.number), c.requires.3)

pub returns : goal.returns
returns c =
    let a = c.args in
    let found : c.search_file-r.result ≡ first_wanted a.image.now a.id.number (Named a.name) 0 =
    search-wanted a.image.now a.id.number (Named a.name) 0 a.count _ c.requires.2 (rw c.from.ensures at c.search_file-r.ensures.0) in
    rw (
      look-found a.image.now a.id a.name c.requires.0 (sym c.is_proper.ensures ∙ c.if-not-is_proper.false) c.search_file-r.result found (omega (arith, c.requires.2)),
      c.entry_of_file-e.ensures,
      c.from.ensures,
    )
