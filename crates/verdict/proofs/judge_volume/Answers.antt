-- What opening gives, the room that there is, and the five rules.
use mathlib.Core.Path.{◌≡◌, sym, ap₂, ◌∙◌}
use mathlib.Core.Bool.{Bool, ◌&&◌}
use mathlib.Core.List.{List}
use Prim.Native.Nat.{ℕ}
use native.Mathlib.Omega.{arith}
use lib.Dec.{leb}
use Rattle.answer.specs.Outcome.{unless, ◌then◌}
use Rattle.volume.specs.Volume.{volume_of}
use Rattle.volume.specs.declared.Volume.{Volume}
use Rattle.volume.proofs.VolumeLaws.{says}
use Rattle.verdict.specs.Verdict.{roomy, ready, verdict, afterwards, header_marks, block_marks}
use Rattle.verdict.proofs.PassedLaws.{roomy-is}
use Rattle.verdict.proofs.judge_volume.Goals as goal

-- Whether there is room, as the image says.
room-is : (image : List ℕ) (v : Volume) → v ≡ volume_of image → (a h : ℕ) (r : Bool) → r ≡ (leb v.blocks a && leb v.fmax h) → r ≡ roomy image a h
unfolding roomy
room-is image v e a h r f =
    let laid = says image v e in
    f ∙ ap₂ (λ (n m : ℕ). leb n a && leb m h) laid.blocks laid.fmax

pub returns-in_err-v : goal.returns-in_err-v
unfolding verdict ready block_marks header_marks afterwards ◌then◌
returns-in_err-v c = record { judged = grind arith; block_marks = grind arith; header_marks = grind arith }

pub returns-then-not-is_roomy : goal.returns-then-not-is_roomy
unfolding verdict ready block_marks header_marks afterwards unless ◌then◌
returns-then-not-is_roomy c =
    let room = room-is c.args.image.now _ c.in_ok-v.ensures.1 _ _ _ c.is_roomy.ensures in
    record { judged = grind arith; block_marks = grind arith; header_marks = grind arith }

pub judge_opened-requires : goal.judge_opened-requires
judge_opened-requires c =
    let v = c.in_ok-v.ensures in
    let room = room-is c.args.image.now _ v.1 _ _ _ c.is_roomy.ensures in
    let r = roomy-is c.args.image.now _ _ (sym room ∙ c.if-not-is_roomy.false) in
    (v, r.0, r.1)

pub returns-in_err-judge_opened : goal.returns-in_err-judge_opened
unfolding verdict ready block_marks header_marks unless ◌then◌
returns-in_err-judge_opened c =
    let room = room-is c.args.image.now _ c.in_ok-v.ensures.1 _ _ _ c.is_roomy.ensures in
    record { judged = grind arith; block_marks = grind arith; header_marks = grind arith }

pub returns : goal.returns
unfolding verdict ready block_marks header_marks unless ◌then◌
returns c =
    let room = room-is c.args.image.now _ c.in_ok-v.ensures.1 _ _ _ c.is_roomy.ensures in
    record { judged = grind arith; block_marks = grind arith; header_marks = grind arith }
