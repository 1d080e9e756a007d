-- One call on a good image: refused it changes nothing, and else it does what its definition says.
use Rattle.answer.specs.Outcome.{Outcome}
use Rattle.std.specs.Prelude.{Ok, Err}
use mathlib.Core.Path.{◌≡◌, refl, sym, subst, ◌∙◌}
use mathlib.Core.Bool.{false≢true}
use mathlib.Core.List.{List}
use Prim.Native.Nat.{ℕ}
use native.Mathlib.Omega.{arith}
use lib.ListN.{length}
use Rattle.update.proofs.Effects.{Good}
use Rattle.update.proofs.DoneLaws.{create-passes, create-refused, extend-passes, extend-refused, delete-passes, delete-refused}
use Rattle.history.specs.Calls.{Call, create, extend, delete, outcome_of, step, Words}
use Rattle.history.specs.Writing.{RefusedKeeps}
use Rattle.history.proofs.Step.{Step}
use Rattle.history.proofs.CreateStep.{create-step, create-file}
use Rattle.history.proofs.ExtendStep.{extend-step}
use Rattle.history.proofs.DeleteStep.{delete-step}

pub refused-keeps : RefusedKeeps
unfolding outcome_of step
refused-keeps (create name owner protection area headers) image r e = create-refused image name owner protection (length area) (length headers) r e
refused-keeps (extend id c area headers) image r e = extend-refused image id c (length area) (length headers) r e
refused-keeps (delete id area headers) image r e = delete-refused image id (length area) (length headers) r e

-- A call that changes nothing.
step-none : (call : Call) (image : List ℕ) → Good image → Step call image image
step-none call image g = record {
  good = g;
  volume = refl;
  places = refl;
  slotted = refl;
  used = λ f above file unnamed. file.used;
  kept = λ f above file unnamed. record { headers = λ x m. refl; chain = refl; blocks = refl; bytes = λ j m. refl };
  rises = λ n a b. omega arith;
  renewed = λ n a b was is. absurd (false≢true (sym was ∙ is));
  size = refl;
  others = λ k out. refl;
}

passed-step : (call : Call) (image : List ℕ) → Good image → Words call → outcome_of call image ≡ Ok tt → Step call image (step call image)
unfolding outcome_of step
passed-step (create name owner protection area headers) image g w p =
    rw (create-passes image name owner protection (length area) (length headers) p, create-file image g name owner protection area headers w p)
    (create-step image g name owner protection area headers w p)
passed-step (extend id c area headers) image g w p =
    rw (extend-passes image id c (length area) (length headers) p) (extend-step image g id c area headers p)
passed-step (delete id area headers) image g w p =
    rw (delete-passes image id (length area) (length headers) p) (delete-step image g id area headers p)

pub step_is : (call : Call) (image : List ℕ) → Good image → Words call → Step call image (step call image)
step_is call image g w = go (outcome_of call image) refl
  where
    go : (o : Outcome) → outcome_of call image ≡ o → Step call image (step call image)
    go (Ok tt) e = passed-step call image g w e
    go (Err r) e = subst (Step call image) (sym (refused-keeps call image r e)) (step-none call image g)
