-- Volume V is accepted by the verdict as computed; that it is sound follows, since the verdict accepts nothing else.
use native.Mathlib.Omega.{arith}
use Rattle.sound.proofs.ExactLaws.{exact, verdict-judges}
use Rattle.volume_v.specs.VolumeV.{volume_v}
use Rattle.volume_v.proofs.Judged.{size, numbers, computed}
use Rattle.witness.specs.Witness.{AcceptedV}

pub accepted : AcceptedV
accepted =
    let both = (verdict-judges volume_v 100 16 (omega (arith, size)) (omega (arith, numbers))).yields computed in
    record {
      opens = both.0;
      sound = both.1;
      accepted = λ area headers a h. (exact volume_v area headers (omega (arith, size)) (omega (arith, numbers))).always both.0 both.1;
    }
