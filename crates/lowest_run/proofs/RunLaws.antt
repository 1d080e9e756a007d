-- Laws of the lowest run of free blocks.
use Rattle.std.specs.Prelude.{Some, None}
use mathlib.Core.Path.{◌≡◌}
use mathlib.Core.Bool.{true, false}
use mathlib.Core.List.{List}
use Prim.Native.Nat.{ℕ, ◌+◌, ◌-◌, ◌≤◌, ◌<◌}
use native.Mathlib.Omega.{arith}
use borrow.Author.Tests.{eq-eqb, ne_eqb, lt-ltb, le-ltb}
use Rattle.image.specs.Bits.{bit_at, is_set}
use Rattle.lists.specs.First.{first}
use Rattle.lists.proofs.BelowLaws.{below_none, below_more, below_fails}
use Rattle.lists.proofs.FirstLaws.{first-is}
use Rattle.lowest_run.specs.Runs.{is_free, is_run, starts, lowest_start, start_of}

-- A run grows by one free block after another.
pub run_none : (map : List ℕ) (s : ℕ) → is_run map 0 s ≡ true
unfolding is_run
run_none map s = below_none (is_free map s)

pub run_more : (map : List ℕ) (s k : ℕ) → is_run map k s ≡ true → bit_at map (s + k) ≡ 1 → is_run map (k + 1) s ≡ true
unfolding is_run is_free is_set
run_more map s k h e = below_more k (is_free map s) h (eq-eqb (bit_at map (s + k)) 1 e)

-- A used block breaks every run over it.
pub run-broken : (map : List ℕ) (c t j : ℕ) → t ≤ j → j < t + c → (bit_at map j ≡ 1 → ⊥) → is_run map c t ≡ false
unfolding is_run is_free is_set
run-broken map c t j low high used =
    let e : t + (j - t) ≡ j = omega arith in
    below_fails c (is_free map t) (j - t) (omega arith) (rw e (ne_eqb (bit_at map j) 1 used))

-- The start found is the lowest.
module _ (map : List ℕ) (n c : ℕ) where
  pub start-found : (s : ℕ) → 1 ≤ c → s + c ≤ n → ((t : ℕ) → t < s → is_run map c t ≡ false) → is_run map c s ≡ true → start_of map n c ≡ Some (record { 0 = s })
  unfolding start_of lowest_start starts
  start-found s some fits before here =
      let e : first (is_run map c) 0 (n + 1 - c) ≡ s =
      first-is (is_run map c) 0 (n + 1 - c) s (record { low = omega arith; high = omega arith; before = λ i a b. before i b; here = λ l. here }) in
      rw (e, lt-ltb s (n + 1 - c) (omega arith))

  pub start-missing : ((t : ℕ) → t + c ≤ n → is_run map c t ≡ false) → start_of map n c ≡ None
  unfolding start_of lowest_start starts
  start-missing without =
      let e : first (is_run map c) 0 (n + 1 - c) ≡ n + 1 - c =
      first-is (is_run map c) 0 (n + 1 - c) (n + 1 - c) (record { low = omega arith; high = omega arith; before = λ i a b. without i (omega arith); here = λ l. absurd (omega arith) }) in
      rw (e, le-ltb (n + 1 - c) (n + 1 - c) (omega arith))
