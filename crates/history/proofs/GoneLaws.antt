-- A file ID that a delete removed: its sequence number is spent, whatever list of calls follows.
use mathlib.Core.Path.{◌≡◌, refl}
use mathlib.Core.Bool.{Bool, true, false}
use mathlib.Core.List.{List, [], ◌∷◌}
use Prim.Native.Nat.{ℕ, ◌≤◌, ◌<◌}
use native.Mathlib.Omega.{arith}
use Rattle.answer.specs.declared.types.FileId.{FileId}
use Rattle.header.specs.Fields.{h_fseq}
use Rattle.volume.specs.Volume.{slots, header, in_use}
use Rattle.open_file.specs.Opening.{anyone}
use Rattle.update.proofs.Effects.{Usable, Good}
use Rattle.history.specs.Calls.{Call, step, image_after, Words, Each}
use Rattle.history.specs.ReadBack.{Gone}
use Rattle.history.proofs.Step.{Step}
use Rattle.history.proofs.OpenLaws.{open-unused, open-stale}
use Rattle.history.proofs.StepLaws.{step_is}

-- The sequence word of the slot is not below the ID's, and above it once the number is in use.
pub record Spent (image : List ℕ) (id : FileId) : Type 0 where
  pub low : 1 ≤ id.number
  pub has : id.number ≤ slots image
  pub reached : id.sequence ≤ h_fseq (header image id.number)
  pub passed : in_use image id.number ≡ true → id.sequence < h_fseq (header image id.number)

spent-step : (call : Call) (image image' : List ℕ) (id : FileId) → Step call image image' → Spent image id → Spent image' id
spent-step call image image' id s p =
    let n = id.number in
    record {
      low = p.low;
      has = omega (arith, s.slotted, p.has);
      reached = omega (arith, s.rises n p.low p.has, p.reached);
      passed = λ u. go (in_use image n) refl u;
    }
  where
    go : (b : Bool) → in_use image id.number ≡ b → in_use image' id.number ≡ true → id.sequence < h_fseq (header image' id.number)
    go true e u = omega (arith, s.rises id.number p.low p.has, p.passed e)
    go false e u = omega (arith, s.renewed id.number p.low p.has e u, p.reached)

pub after-spent : (calls : List Call) (image : List ℕ) (id : FileId) → Good image → Each Words calls → Spent image id → Spent (image_after calls image) id
unfolding image_after
after-spent [] image id g w p = p
after-spent (call ∷ calls) image id g w p =
    let s = step_is call image g w.0 in
    after-spent calls (step call image) id s.good w.1 (spent-step call image (step call image) id s p)

pub spent-gone : (image : List ℕ) (id : FileId) → Usable image → id.volume ≡ 0 → Spent image id → Gone image id
spent-gone image id g v p = record {
  unused = λ u. open-unused image g anyone id v u;
  again = λ u. open-stale image g anyone id v u (λ e. omega (arith, p.passed u));
}
