-- Header 1 without a link is the only one; else the walk tells.
use native.Mathlib.Omega.{arith}
use Prim.Native.Nat.{◌+◌}
use Rattle.home.specs.Home.{blocks}
use Rattle.volume.specs.Volume.{index_header}
use Rattle.volume.proofs.VolumeLaws.{heads-gives, laid-room}
use Rattle.index_file.proofs.WalkLaws.{along-start, along-end}
use Rattle.index_file.proofs.headers_of.Goals as goal

pub overflow_add-places : goal.overflow_add-places
overflow_add-places c = omega (arith, laid-room c.args.image.now c.args.v c.requires.3 c.requires.1 c.requires.2)

pub returns-then-m_efnu-eq0 : goal.returns-then-m_efnu-eq0
unfolding index_header
returns-then-m_efnu-eq0 c =
    let image = c.args.image.now in
    let l = c.requires.3 in
    let room = laid-room image c.args.v l c.requires.1 c.requires.2 in
    rw c.requires.0
    (along-end image _ 0 (c.args.v.iblb.0 + c.args.v.ibsz)
    (along-start image (c.args.v.iblb.0 + c.args.v.ibsz) (omega (arith, l.iblb, l.ibsz))
    (record {
      number = 1;
      whole = rw (l.iblb, l.ibsz) (heads-gives (blocks image) 1 (index_header image) c.requires.4).whole;
      low = omega (arith, room, l.blocks);
    }))
    (rw (l.iblb, l.ibsz, ← c.requires.5) (omega (arith, c.m_efnu.ensures))))
