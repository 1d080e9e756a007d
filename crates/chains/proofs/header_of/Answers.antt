-- A number in use with a slot has its header there.
use Rattle.std.proofs.Common.{rules}
use mathlib.Core.Path.{ap, ◌∙◌}
use Rattle.image.specs.Blocks.{block}
use Rattle.volume.specs.Volume.{header}
use Rattle.chains.proofs.NumberLaws.{number-slot}
use Rattle.chains.proofs.header_of.Goals as goal

pub slot_at-requires : goal.slot_at-requires
slot_at-requires c = search (rules, number-slot)

pub returns : goal.returns
unfolding header
returns c = c.block.ensures ∙ ap (block c.args.image.now) c.slot_at.ensures
