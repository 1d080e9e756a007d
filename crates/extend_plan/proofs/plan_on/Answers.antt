-- Each part of the row is asked where those before it are passed.
use mathlib.Core.Path.{◌≡◌, sym, ap, ◌∙◌}
use mathlib.Core.List.{List}
use Prim.Native.Nat.{ℕ}
use borrow.Author.Rules.{rules}
use Rattle.std.specs.Prelude.{Ok}
use Rattle.image.specs.Blocks.{block}
use Rattle.answer.specs.Outcome.{Outcome}
use Rattle.volume.specs.Volume.{slot, header}
use Rattle.open_file.specs.Opening.{anyone}
use Rattle.open_file.proofs.OpeningLaws.{Opened, opened, by-on}
use Rattle.update.specs.Extend.{run_start}
use Rattle.update.proofs.ExtendLaws.{count-range}
use Rattle.extend_plan.proofs.TestLaws.{admits, admits-count, tests-opening, tests-admits, tests-rooms, planned-refused, planned-at}
use Rattle.extend_plan.proofs.plan_on.Goals as goal

-- What is admitted by the first header of the file.
asks : (image : List ℕ) (n k : ℕ) (o q : Outcome) (h : List ℕ) (lbn : ℕ) → o ≡ q → o ≡ admits h n k → h ≡ block image lbn → lbn ≡ slot image n → admits (header image n) n k ≡ q
unfolding header
asks image n k o q h lbn p e f g = sym (sym p ∙ e ∙ ap (λ (x : List ℕ). admits x n k) (f ∙ ap (block image) g))

pub last_slot-last-requires : goal.last_slot-last-requires
last_slot-last-requires c =
    let image : List ℕ = c.args.image.now in
    let file : Opened anyone image c.args.id = opened image c.args.id (by-on anyone image c.args.id c.requires.0 ∙ c.in_ok-file.ensures.0) in
    let e : c.from.result ≡ c.args.id.number = search rules in
    rw e (c.requires, file.found.first, file.chain, c.in_ok-file.ensures.2)

pub find_run-requires : goal.find_run-requires
find_run-requires c =
    let image : List ℕ = c.args.image.now in
    let n : ℕ = c.args.id.number in
    let k : ℕ = c.args.c in
    let admitted : admits (header image n) n k ≡ Ok tt = asks image n k _ _ _ _ c.in_ok-admit.was c.admit.ensures c.block.ensures c.in_ok-file.ensures.2 in
    let r = count-range k (admits-count (header image n) n k admitted) in
    ((c.requires.0, c.requires.1), r.0, r.1)

pub returns-in_err-file : goal.returns-in_err-file
returns-in_err-file c =
    planned-refused _ _ _ _ _ (search rules) (tests-opening c.args.image.now c.args.id c.requires.0 c.args.c _ c.in_err-file.ensures)

pub returns-in_err-admit : goal.returns-in_err-admit
returns-in_err-admit c =
    let image : List ℕ = c.args.image.now in
    let id = c.args.id in
    let refused = asks image id.number c.args.c _ _ _ _ c.in_err-admit.was c.admit.ensures c.block.ensures c.in_ok-file.ensures.2 in
    planned-refused _ _ _ _ _ (search rules) (tests-admits image id c.requires.0 c.args.c c.in_ok-file.ensures.0 _ refused)

pub returns : goal.returns
returns c =
    let image : List ℕ = c.args.image.now in
    let id = c.args.id in
    let n : ℕ = id.number in
    let k : ℕ = c.args.c in
    let admitted : admits (header image n) n k ≡ Ok tt = asks image n k _ _ _ _ c.in_ok-admit.was c.admit.ensures c.block.ensures c.in_ok-file.ensures.2 in
    let e : c.from.result ≡ n = search rules in
    planned-at image k (run_start image k) _ _ _ _ (tests-rooms image id c.requires.0 k c.in_ok-file.ensures.0 admitted) c.find_run.ensures
    (rw e at c.last_slot-last.ensures)
