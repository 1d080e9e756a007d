-- FILES is passed exactly where the known files are as they must be, and every header in use has a slot and is whole.
use mathlib.Core.Path.{◌≡◌, refl}
use mathlib.Core.Bool.{true}
use mathlib.Core.List.{List}
use Prim.Native.Nat.{ℕ, ◌+◌, ◌≤◌}
use native.Mathlib.Omega.{arith}
use Rattle.answer.specs.declared.refusal.Refusal.TheVariants as refusal
use Rattle.header.specs.Fields.{h_fseq, segment}
use Rattle.volume.specs.Volume.{fmax, slots, has_slot, header, fault_of, in_use}
use Rattle.files.specs.Files.{is_known, bad_file, unmet_of, files_place, files}
use Rattle.sound.specs.Sound.{Known}
use Rattle.sound.proofs.Tests.{Tests, Spares, Judges, t-eq, t-le, t-is, t-and, t-map, s_or, s-unmet, j-each, j-map}
use Rattle.slots.proofs.SlotLaws.{used-range}

pub record FilesSound (image : List ℕ) : Type 0 where
  pub known : (n : ℕ) → 1 ≤ n → n ≤ 5 → Known image n
  pub slotted : (n : ℕ) → in_use image n ≡ true → n ≤ slots image
  pub whole : (n : ℕ) → in_use image n ≡ true → fault_of image n ≡ 0

module _ (image : List ℕ) where
  known_is : (n : ℕ) → Tests (is_known image n) (Known image n)
  unfolding is_known
  known_is n =
      t-map (λ r. record { used = r.0.0; sequence = r.0.1; first = r.1 }) (λ k. ((k.used, k.sequence), k.first))
      (t-and (t-and (t-is (in_use image n)) (t-eq (h_fseq (header image n)) n)) (t-eq (segment (header image n)) 0))

  file-spared : (n : ℕ) → Spares (bad_file image n) ((n ≤ 5 → Known image n) × (in_use image n ≡ true → (n ≤ slots image) × (fault_of image n ≡ 0)))
  unfolding bad_file has_slot
  file-spared n =
      s_or (s-unmet (t-le n 5) (known_is n)) (s-unmet (t-is (in_use image n)) (t-and (t-le n (slots image)) (t-eq (fault_of image n) 0)))

  pub files-judges : 5 ≤ fmax image → Judges (files image) (FilesSound image)
  unfolding files files_place
  files-judges five =
      j-map
      (λ r. record {
        known = λ n a b. (r n a (omega arith)).0 b;
        slotted = λ n u. let g = used-range image n u in ((r n g.0 (omega arith)).1 u).0;
        whole = λ n u. let g = used-range image n u in ((r n g.0 (omega arith)).1 u).1;
      })
      (λ w n a b. (λ c. w.known n a c, λ u. (w.slotted n u, w.whole n u)))
      (j-each 1 (fmax image) (1 + fmax image) (refusal.Files (files_place image) (unmet_of image (files_place image))) refl file-spared)
