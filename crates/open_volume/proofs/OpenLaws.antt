-- The laws of opening's tests that its functions are proved by.
use mathlib.Core.Path.{◌≡◌}
use mathlib.Core.Bool.{true}
use mathlib.Core.List.{List}
use Prim.Native.Nat.{ℕ}
use lib.ListN.{length}
use Rattle.pointers.specs.Pointers.{Fits}
use Rattle.whole.proofs.WholeLaws.{whole-fits}
use Rattle.volume.specs.Opening.{alone}
use Rattle.volume.proofs.OpeningLaws.{sized-is, home-length, open-size, open-home, open-geometry}
use Rattle.volume.proofs.VolumeLaws.{alone-gives}

-- What opening comes to by its size, its home and its geometry, and what these give.
pub ruleset opening = (sized-is, home-length, open-size, open-home, open-geometry)

-- A header that stands alone is whole, and has its pointers in it.
pub alone_fits : (blocks n : ℕ) (h : List ℕ) → length h ≡ 512 → alone blocks n h ≡ true → Fits h
alone_fits blocks n h long t = whole-fits blocks n h long (alone-gives blocks n h t).whole
