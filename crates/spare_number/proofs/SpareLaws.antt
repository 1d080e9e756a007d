-- Laws of spare file numbers.
use mathlib.Core.Path.{◌≡◌}
use mathlib.Core.Bool.{true, false, and-false}
use mathlib.Core.List.{List}
use Prim.Native.Nat.{ℕ, ◌-◌, ◌≤◌, ◌<◌}
use native.Mathlib.Omega.{arith}
use borrow.Author.Tests.{lt-leb, le-leb}
use lib.Dec.{ltb}
use Rattle.lists.specs.First.{first}
use Rattle.lists.proofs.FirstLaws.{first-is}
use Rattle.header.specs.Fields.{h_fseq}
use Rattle.image.specs.Blocks.{block}
use Rattle.slots.specs.declared.SlotRun.{SlotRun}
use Rattle.slots.specs.Slots.{Stands}
use Rattle.slots.proofs.SlotLaws.{stands_at, stands-header}
use Rattle.volume.specs.Volume.{slots, has_slot, in_use}
use Rattle.spare_number.specs.SpareNumber.{is_spare}

module _ (image : List ℕ) where
  -- A number in use is not spare, nor is one without a slot; any other is by the word of its slot.
  pub spare_used : (n : ℕ) → in_use image n ≡ true → is_spare image n ≡ false
  unfolding is_spare
  spare_used n e = rw e

  pub spare_past : (n : ℕ) → slots image < n → is_spare image n ≡ false
  unfolding is_spare has_slot
  spare_past n l = rw (lt-leb n (slots image) l, and-false)

  pub spare_word : (n : ℕ) (run : SlotRun) → Stands image n run → in_use image n ≡ false → 1 ≤ run.left → is_spare image n ≡ ltb (h_fseq (block image run.lbn.0)) 65535
  unfolding is_spare has_slot
  spare_word n run s e l = rw (e, le-leb n (slots image) (stands_at image n run s l).0, stands-header image n run s l)

  -- Past the last slot there is none.
  pub spare-none : (n e : ℕ) → slots image < n → n ≤ e → first (is_spare image) n (e - n) ≡ e
  spare-none n e l h =
      first-is (is_spare image) n (e - n) e
      (record { low = h; high = omega arith; before = λ i a b. spare_past i (omega arith); here = λ z. absurd (omega arith) })
