-- A law of headers that head their file.
use mathlib.Core.Path.{◌≡◌}
use mathlib.Core.Bool.{true}
use mathlib.Core.List.{List}
use Prim.Native.Nat.{ℕ}
use lib.ListN.{length}
use Rattle.pointers.specs.Pointers.{Fits}
use Rattle.whole.proofs.WholeLaws.{whole-fits}
use Rattle.volume.specs.Opening.{heads}
use Rattle.volume.proofs.VolumeLaws.{heads-gives}

-- Such a header is whole, and has its pointers in it.
pub heads_fits : (blocks n : ℕ) (h : List ℕ) → length h ≡ 512 → heads blocks n h ≡ true → Fits h
heads_fits blocks n h long t = whole-fits blocks n h long (heads-gives blocks n h t).whole
