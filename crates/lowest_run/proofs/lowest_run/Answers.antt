-- No start below s has a run; the k blocks from s on are free. A used block after them breaks every run from s to itself.
use mathlib.Core.Path.{◌≡◌, refl, sym, ap, ◌∙◌}
use mathlib.Core.Bool.{true}
use Prim.Native.Nat.{ℕ, ◌+◌}
use native.Mathlib.Decide.{dec_lt}
use native.Mathlib.Omega.{arith}
use Rattle.lowest_run.specs.Runs.{is_run}
use Rattle.lowest_run.proofs.RunLaws.{run_none, run_more, run-broken, start-found, start-missing}
use Rattle.lowest_run.proofs.lowest_run.Goals as goal

pub loop-k-init : goal.loop-k-init
loop-k-init c = (refl, run_none _ _)

pub bit_at-requires : goal.bit_at-requires
bit_at-requires c = omega arith

pub loop-k-preserved : goal.loop-k-preserved
loop-k-preserved c = (omega arith, run_more _ _ _ c.loop-k.invariant.1 (omega arith))

pub search-preserved : goal.search-preserved
search-preserved c =
    let s = c.loop-k.s in
    let k = c.loop-k.k in (
      omega arith,
      λ t h.
          elim (dec_lt t s) [
            | yes l ↦ c.search.invariant.1 t (omega arith)
            | no l ↦ run-broken _ _ t (s + k) (omega arith) (omega arith) (λ e. c.if-bit_at-ne1.true (c.bit_at.ensures ∙ e))
          ],
    )

pub returns-in-search : goal.returns-in-search
returns-in-search c =
    let s = c.loop-k.s in
    let a = c.args in
    let map = a.map.now in
    let full : c.loop-k.k ≡ a.c = omega arith in
    let here : is_run map a.c s ≡ true = ap (λ (k : ℕ). is_run map k s) (sym full) ∙ c.loop-k.invariant.1 in
    sym (start-found map _ _ s (omega arith) (omega arith) (λ t h. c.search.invariant.1 t (omega arith)) here)

pub returns : goal.returns
returns c = sym (start-missing _ _ _ (λ t h. c.search.invariant.1 t (omega arith)))
