-- A good link names a number in use with a slot, whose header has a segment number one higher.
use mathlib.Core.Path.{◌≡◌, ap, ◌∙◌}
use native.Mathlib.Omega.{arith}
use Rattle.header.specs.Fields.{segment, m_efnu}
use Rattle.volume.specs.Volume.{header}
use Rattle.chains.proofs.NumberLaws.{segment-most}
use Rattle.chains.proofs.LinkLaws.{good-links}
use Rattle.chains.proofs.next_header.Goals as goal

pub header_of-requires : goal.header_of-requires
header_of-requires c =
    (c.requires.0, rw c.requires.1 (good-links _ _ c.requires.2 c.requires.3).number)

pub returns : goal.returns
returns c =
    let image = c.args.image.now in
    let h = c.args.h.now in
    let is : c.header_of.result.now ≡ header image (m_efnu h) = c.header_of.ensures ∙ ap (header image) c.requires.1 in
    record {
      some = c.requires.2;
      good = c.requires.3;
      is = is;
      higher = ap segment is ∙ (good-links image h c.requires.2 c.requires.3).next;
      low = rw is (segment-most image (m_efnu h) (record { each = λ i. omega (arith, c.type_inv.image i) }));
    }
