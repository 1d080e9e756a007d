-- What one call does to a good image, refused or not: the interface between the calls and lists of them.
use mathlib.Core.Path.{◌≡◌}
use mathlib.Core.Bool.{true, false}
use mathlib.Core.List.{List}
use Prim.Native.Nat.{ℕ, ◌≤◌, ◌<◌}
use lib.ListN.{length}
use Rattle.image.specs.Blocks.{block}
use Rattle.header.specs.Fields.{h_fseq}
use Rattle.volume.specs.Volume.{slots, header, in_use, volume_of, places_of}
use Rattle.sound.specs.Claims.{IsFile}
use Rattle.update.proofs.Effects.{Good, KeptFile}
use Rattle.history.specs.Calls.{Call, Names}
use Rattle.history.specs.Claims.{last_known}
use Rattle.history.specs.Writing.{Unwritten}

pub record Step (call : Call) (image image' : List ℕ) : Type 0 where
  pub good : Good image'
  pub volume : volume_of image' ≡ volume_of image
  pub places : places_of image' ≡ places_of image
  pub slotted : slots image' ≡ slots image
  -- A file that the call does not name is in use, and keeps its headers, its blocks and their bytes.
  pub used : (f : ℕ) → last_known < f → IsFile image f → (Names call f (h_fseq (header image f)) → ⊥) → in_use image' f ≡ true
  pub kept : (f : ℕ) → last_known < f → IsFile image f → (Names call f (h_fseq (header image f)) → ⊥) → KeptFile image image' f
  -- The sequence word of a slot does not fall, and rises where the number is used anew.
  pub rises : (n : ℕ) → 1 ≤ n → n ≤ slots image → h_fseq (header image n) ≤ h_fseq (header image' n)
  pub renewed : (n : ℕ) → 1 ≤ n → n ≤ slots image → in_use image n ≡ false → in_use image' n ≡ true → h_fseq (header image n) < h_fseq (header image' n)
  pub size : length image' ≡ length image
  pub others : (k : ℕ) → Unwritten call image k → block image' k ≡ block image k
