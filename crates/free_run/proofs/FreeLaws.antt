-- Laws of the next bit of a map, and of the answer by it.
use Rattle.std.specs.Prelude.{Ok, Err}
use mathlib.Core.Path.{◌≡◌, sym}
use mathlib.Core.List.{List}
use Prim.Native.Nat.{ℕ, ◌+◌, ◌-◌, ◌≤◌, ◌<◌}
use borrow.Author.Tests.{eq-eqb, ne_eqb, lt-ltb, le-ltb}
use Rattle.image.specs.Bits.{bit_at}
use Rattle.lists.proofs.FirstLaws.{first-here, first_on, first-none, first-has}
use Rattle.answer.specs.declared.refusal.Refusal.{Refusal}
use Rattle.answer.specs.declared.refusal.Refusal.TheVariants as refusal
use Rattle.answer.specs.Outcome.{unless, ◌then◌}
use Rattle.answer.specs.Answers.{answer_of}
use Rattle.home.specs.Home.{blocks}
use Rattle.volume.specs.Opening.{open_volume}
use Rattle.free_run.specs.Free.{is_bit, next_bit, next_free, next_taken, find_free, free_run_answer}

-- At place j the bit is b, or the search goes on, or it is past the last place; and it never goes back.
module _ (map : List ℕ) (n b j : ℕ) where
  pub next_here : j < n → bit_at map j ≡ b → j ≡ next_bit map n b j
  unfolding next_bit is_bit
  next_here l e = sym (first-here (is_bit map b) j n l (eq-eqb (bit_at map j) b e))

  pub next-on : j < n → (bit_at map j ≡ b → ⊥) → next_bit map n b j ≡ next_bit map n b (j + 1)
  unfolding next_bit is_bit
  next-on l e = first_on (is_bit map b) j n l (ne_eqb (bit_at map j) b e)

  pub next-none : n ≤ j → j ≡ next_bit map n b j
  unfolding next_bit
  next-none l = sym (first-none (is_bit map b) j n l)

  pub next_low : j ≤ next_bit map n b j
  unfolding next_bit
  next_low = (first-has (is_bit map b) j (n - j)).low

-- How the search goes.
pub ruleset next_steps = (next_here, next-on, next-none)

-- The answer of a volume that opens, where a block is free and where none is, and of one that does not open.
module _ (image : List ℕ) (from : ℕ) where
  pub run-done : open_volume image ≡ Ok tt → (lbn end : ℕ) → lbn ≡ next_free image from → end ≡ next_taken image lbn → lbn < blocks image
      → Ok (record { lbn = record { 0 = lbn }; count = end - lbn }) ≡ free_run_answer image from
  unfolding free_run_answer find_free answer_of unless ◌then◌
  run-done o lbn end e f l = rw (o, ← e, lt-ltb lbn (blocks image) l, ← f)

  pub run-absent : open_volume image ≡ Ok tt → (lbn : ℕ) → lbn ≡ next_free image from → blocks image ≤ lbn → Err refusal.Absent ≡ free_run_answer image from
  unfolding free_run_answer find_free answer_of unless ◌then◌
  run-absent o lbn e l = rw (o, ← e, le-ltb lbn (blocks image) l)

  pub run_refused : (r : Refusal) → open_volume image ≡ Err r → Err r ≡ free_run_answer image from
  unfolding free_run_answer find_free answer_of ◌then◌
  run_refused r o = rw o
