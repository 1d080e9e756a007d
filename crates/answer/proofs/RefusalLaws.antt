-- Laws of refusals.
use mathlib.Core.Path.{◌≡◌}
use native.Mathlib.Omega.{arith}
use Rattle.answer.specs.declared.refusal.Refusal.{Refusal}
use Rattle.answer.specs.declared.refusal.Refusal.TheVariants as refusal
use Rattle.answer.specs.Refusal.{number_of}

-- No refusal has the number of DONE.
pub refused-number : (r : Refusal) → number_of r ≡ 0 → ⊥
refused-number refusal.Size e = omega arith
refused-number refusal.Home e = omega arith
refused-number refusal.Geometry e = omega arith
refused-number refusal.Index e = omega arith
refused-number refusal.Storage e = omega arith
refused-number refusal.Relvol e = omega arith
refused-number refusal.Number e = omega arith
refused-number (refusal.Header t) e = omega arith
refused-number refusal.Sequence e = omega arith
refused-number refusal.Segment e = omega arith
refused-number refusal.Locked e = omega arith
refused-number refusal.Chain e = omega arith
refused-number refusal.Vbn e = omega arith
refused-number refusal.Name e = omega arith
refused-number refusal.Absent e = omega arith
refused-number refusal.Work e = omega arith
refused-number (refusal.Files n t) e = omega arith
refused-number (refusal.Links n) e = omega arith
refused-number (refusal.Twice l) e = omega arith
refused-number (refusal.Badhome l) e = omega arith
refused-number (refusal.Map j) e = omega arith
refused-number refusal.Known e = omega arith
refused-number refusal.Fixed e = omega arith
refused-number refusal.Count e = omega arith
refused-number refusal.Full e = omega arith
refused-number refusal.Run e = omega arith
refused-number refusal.Nonumber e = omega arith
refused-number refusal.Room e = omega arith
