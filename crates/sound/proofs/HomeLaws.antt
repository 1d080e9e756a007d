-- BADHOME is passed exactly where the home positions passed over are blocks of file 3.
use mathlib.Core.List.{List}
use Prim.Native.Nat.{ℕ, ◌≤◌, ◌<◌}
use native.Mathlib.Omega.{arith}
use Rattle.answer.specs.declared.refusal.Refusal.TheVariants as refusal
use Rattle.home.specs.Home.{position, home_index}
use Rattle.chains.specs.Chains.{file_blocks}
use Rattle.lists.specs.Counts.{count}
use Rattle.lists.proofs.CountLaws.{count_at, count-find}
use Rattle.bad_home.specs.Homes.{left_out, bad_home_index, bad_home}
use Rattle.sound.specs.Sound.{BlockOf}
use Rattle.sound.proofs.Tests.{Judges, s-none, s-map, j-each, j-map}

-- A block of a file stands among its blocks.
pub block-has : (image : List ℕ) (n j : ℕ) → BlockOf image n j → 1 ≤ count j (file_blocks image n)
block-has image n j b = rw b.here at (count_at (file_blocks image n) b.place b.inside)

pub block-find : (image : List ℕ) (n j : ℕ) → 1 ≤ count j (file_blocks image n) → BlockOf image n j
block-find image n j h =
    let f = count-find j (file_blocks image n) h in
    record { place = f.at; inside = f.inside; here = f.here }

pub home-judges : (image : List ℕ) → Judges (bad_home image) ((i : ℕ) → i < home_index image → BlockOf image 3 (position i))
unfolding bad_home bad_home_index left_out
home-judges image =
    j-map (λ r i l. r i (omega arith) l) (λ r i a l. r i l)
    (j-each 0 (home_index image) (home_index image) (refusal.Badhome (position (bad_home_index image))) (omega arith)
    (λ i. s-map (block-find image 3 (position i)) (block-has image 3 (position i)) (s-none (count (position i) (file_blocks image 3)))))
