-- The digits from the i-th on are written, and what is left of the number has the digits before it.
use native.Mathlib.Omega.{arith}
use borrow.Author.Rules.{rules}
use mathlib.Core.Path.{◌≡◌, refl, sym, ap, ap₂, ◌∙◌}
use Prim.Native.Nat.{ℕ, suc, ◌+◌, ◌-◌, ◌%◌}
use mathlib.Core.List.{List, ◌∷◌}
use lib.ListN.{length, drop, set, length-set}
use lib.Seq.{take-length, drop-length, drop-cons}
use Rattle.image.specs.Stores.{splice}
use Rattle.image.proofs.StoreLaws.{splice-none, splice-before}
use Rattle.text.specs.Text.{decimal}
use Rattle.text.proofs.TextLaws.{decimal-last}
use Rattle.text.proofs.put_decimal.Goals as goal

pub loop-i-init : goal.loop-i-init
loop-i-init c =
    let d = decimal c.args.v in
    let e : c.args.k ≡ length d = omega arith in
    (search rules, refl, rw (e, drop-length d) (sym (splice-none c.args.text.now (c.args.at + length d))), λ p. rw e (sym (take-length d)))

pub loop-i-preserved : goal.loop-i-preserved
loop-i-preserved c =
    let a = c.args in
    let d = decimal a.v in
    let j = c.loop-i.i - 1 in
    let e : c.loop-i.i ≡ j + 1 = omega arith in
    let last = decimal-last d c.loop-i.left j (omega arith) (omega arith) (rw e at (c.loop-i.invariant.3 (omega arith))) in
    let x = 48 + c.loop-i.left % 10 in
    let n : a.at + c.loop-i.i ≡ a.at + j + 1 = omega arith in
    let s : suc j ≡ c.loop-i.i = omega arith in
    let more : x ∷ drop c.loop-i.i d ≡ drop j d =
    ap₂ (λ (y : ℕ) (t : List ℕ). y ∷ t) (sym last.digit) (ap (λ (m : ℕ). drop m d) (sym s)) ∙ sym (drop-cons d j 0 (omega arith)) in (
      search rules,
      simp length-set c.loop-i.invariant.1,
      ap (λ (t : List ℕ). set t (a.at + j) x) (c.loop-i.invariant.2 ∙ ap (λ (m : ℕ). splice a.text.now m (drop c.loop-i.i d)) n)
          ∙ splice-before a.text.now (a.at + j) x (drop c.loop-i.i d) (omega arith)
          ∙ ap (splice a.text.now (a.at + j)) more,
      last.rest,
    )
