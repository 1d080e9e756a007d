-- The header that is read is the file's first.
use Rattle.std.proofs.Common.{rules, ◌≡◌, Err}
use mathlib.Core.Path.{ap, ap₂, ◌∙◌}
use Rattle.image.specs.Blocks.{block}
use Rattle.volume.specs.Volume.{header}
use Rattle.chains.proofs.NumberLaws.{number-length}
use Rattle.open_file.proofs.OpeningLaws.{opened}
use Rattle.file_facts.specs.Files.{attributes_of}
use Rattle.file_facts.proofs.FileLaws.{attributes-refused, attributes-done}
use Rattle.file_facts.proofs.attributes.Goals as goal

pub returns-in_err-file : goal.returns-in_err-file
returns-in_err-file c =
    let e : c.from_residual.result ≡ Err c.in_err-file.field-0.0 = search rules in
    e ∙ attributes-refused c.args.image.now c.args.id _ c.in_err-file.ensures

pub attributes_of-requires : goal.attributes_of-requires
unfolding header
attributes_of-requires c =
    let a = c.args in
    let told = c.in_ok-file.ensures in
    let o = opened a.image.now a.id told.0 in
    rw (c.block.ensures, told.3) (number-length a.image.now a.id.number o.found.first.0 o.volume)

pub returns : goal.returns
unfolding header
returns c =
    let a = c.args in
    let told = c.in_ok-file.ensures in
    attributes-done a.image.now a.id told.0 _ (c.attributes_of.ensures ∙ ap₂ attributes_of (c.block.ensures ∙ ap (block a.image.now) told.3) told.2)
