-- Where the tests are passed the stores have what they need, for the image is safe.
use mathlib.Core.Path.{◌∙◌}
use mathlib.Core.List.{List}
use Prim.Native.Nat.{ℕ}
use borrow.Author.Rules.{rules}
use native.Mathlib.Omega.{arith}
use Rattle.answer.specs.Answers.{answer_of}
use Rattle.verdict.specs.Verdict.{afterwards}
use Rattle.answer.proofs.AnswerLaws.{lbn-done}
use Rattle.volume.proofs.VolumeLaws.{opens}
use Rattle.chains.specs.Chains.{last_number}
use Rattle.update.specs.Extend.{run_start}
use Rattle.update.proofs.Effects.{Usable}
use Rattle.update.proofs.PassedLaws.{extend-tested}
use Rattle.update.proofs.DoneLaws.{image-done}
use Rattle.extend_plan.proofs.TestLaws.{plans}
use Rattle.extend.proofs.TakeLaws.{takes, taken}
use Rattle.extend.proofs.extend_on.Goals as goal

pub take-requires : goal.take-requires
take-requires c =
    let a = c.args in
    let told = plans _ _ _ _ c.in_ok-plan.ensures in
    let usable : Usable a.image.now = record { bytes = record { each = λ i. search rules }; opens = opens a.image.now c.requires.0.0; safe = c.requires.1 } in
    ((c.requires.0.0, c.requires.0.1), rw (told.1, told.2) (takes a.image.now usable a.id a.c (extend-tested a.image.now a.id a.c told.0)))

pub returns-in_err-plan : goal.returns-in_err-plan
unfolding answer_of afterwards
returns-in_err-plan c =
    let o = plans _ _ _ _ c.in_err-plan.ensures in
    (grind arith, grind arith)

pub returns : goal.returns
returns c =
    let a = c.args in
    let image : List ℕ = a.image.now in
    let last : ℕ = last_number image a.id.number in
    let lbn : ℕ = run_start image a.c in
    let told = plans _ _ _ _ c.in_ok-plan.ensures in (
      lbn-done _ _ _ told.0 told.2,
      c.take.ensures ∙ taken image last lbn a.c _ _ told.1 told.2 ∙ image-done _ image _ told.0,
    )
