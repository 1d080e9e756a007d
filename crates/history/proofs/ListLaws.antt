-- Lists of calls: an image stays good by induction over the list, and with it what no call names.
use mathlib.Core.Path.{◌≡◌, refl, ap, ◌∙◌}
use mathlib.Core.List.{List, [], ◌∷◌}
use Prim.Native.Nat.{ℕ, ◌≤◌, ◌<◌}
use native.Mathlib.Omega.{arith}
use lib.ListN.{length, get_or}
use Rattle.image.specs.Words.{Bytes}
use Rattle.image.specs.Stores.{zeros}
use Rattle.image.proofs.StoreLaws.{zeros-length}
use Rattle.header.specs.Fields.{h_fseq, segment}
use Rattle.home.specs.Home.{blocks}
use Rattle.volume.specs.Volume.{fmax, slots, header, volume_of, places_of}
use Rattle.volume.proofs.VolumeLaws.{opens, opens-all}
use Rattle.chains.specs.Chains.{file_blocks}
use Rattle.lists.proofs.CountLaws.{count_at}
use Rattle.sound.specs.Claims.{IsFile}
use Rattle.sound.proofs.ExactLaws.{exact}
use Rattle.update.proofs.Effects.{Usable, Good, good-usable}
use Rattle.history.specs.Calls.{Call, step, image_after, Words, Names, Each}
use Rattle.history.specs.Claims.{Accepted, last_known, Protected, Same, Demand3}
use Rattle.history.specs.Writing.{WritesBounded, VolumeSteady}
use Rattle.history.proofs.Step.{Step}
use Rattle.history.proofs.OpenLaws.{first-in}
use Rattle.history.proofs.StepLaws.{step_is}

-- Accepted is good, both ways.
pub accepted-good : (image : List ℕ) → Bytes image → Accepted image → Good image
accepted-good image bytes a =
    let area = zeros (blocks image) in
    let headers = zeros (fmax image) in
    let room : blocks image ≤ length area = omega (arith, zeros-length (blocks image)) in
    let rest : fmax image ≤ length headers = omega (arith, zeros-length (fmax image)) in
    let both = (exact image area headers room rest).only (a area headers room rest) in
    record { bytes = bytes; opens = opens image both.0; sound = both.1 }

pub good-accepted : (image : List ℕ) → Good image → Accepted image
good-accepted image g area headers room rest = (exact image area headers room rest).always (opens-all image g.opens) g.sound

-- The list.
pub after-good : (calls : List Call) (image : List ℕ) → Good image → Each Words calls → Good (image_after calls image)
unfolding image_after
after-good [] image g w = g
after-good (call ∷ calls) image g w = after-good calls (step call image) (step_is call image g w.0).good w.1

-- What a step keeps of a file that it does not name.
step_same : (call : Call) (image image' : List ℕ) → Usable image → Step call image image' → (f : ℕ) → last_known < f → IsFile image f
    → (Names call f (h_fseq (header image f)) → ⊥) → Same image image' f
step_same call image image' g s f above file unnamed =
    let k = s.kept f above file unnamed in
    let h : header image' f ≡ header image f = k.headers f (first-in image g f file) in
    record {
      file = record { used = s.used f above file unnamed; first = ap segment h ∙ file.first };
      sequence = ap h_fseq h;
      blocks = k.blocks;
      bytes = λ i l. k.bytes (get_or (file_blocks image f) i 0) (count_at (file_blocks image f) i l);
    }

same-trans : (image image' image'' : List ℕ) (f : ℕ) → Same image image' f → Same image' image'' f → Same image image'' f
same-trans image image' image'' f a b = record {
  file = b.file;
  sequence = b.sequence ∙ a.sequence;
  blocks = b.blocks ∙ a.blocks;
  bytes = λ i l. rw a.blocks at (b.bytes i (rw a.blocks l)) ∙ a.bytes i l;
}

pub after_same : (calls : List Call) (image : List ℕ) → Good image → Each Words calls → (f : ℕ) → Protected image calls f → Same image (image_after calls image) f
unfolding image_after
after_same [] image g w f p = record { file = p.file; sequence = refl; blocks = refl; bytes = λ i l. refl }
after_same (call ∷ calls) image g w f p =
    let s = step_is call image g w.0 in
    let a = step_same call image (step call image) (good-usable g) s f p.above p.file p.unnamed.0 in
    let q : Protected (step call image) calls f = record { above = p.above; file = a.file; unnamed = rw a.sequence p.unnamed.1 } in
    same-trans image (step call image) (image_after calls (step call image)) f a (after_same calls (step call image) s.good w.1 f q)

pub demand3 : Demand3
demand3 image bytes a calls w =
    let g = accepted-good image bytes a in
    record {
      accepted = good-accepted (image_after calls image) (after-good calls image g w);
      files = λ f p. after_same calls image g w f p;
    }

-- One call writes only what the rules name.
pub bounded : WritesBounded
bounded image bytes a call w =
    let s = step_is call image (accepted-good image bytes a) w in
    record { size = s.size; others = s.others }

-- The volume opens as before, and no sequence word falls.
record Risen (image image' : List ℕ) : Type 0 where
  volume : volume_of image' ≡ volume_of image
  places : places_of image' ≡ places_of image
  slotted : slots image' ≡ slots image
  rises : (n : ℕ) → 1 ≤ n → n ≤ slots image → h_fseq (header image n) ≤ h_fseq (header image' n)

after-risen : (calls : List Call) (image : List ℕ) → Good image → Each Words calls → Risen image (image_after calls image)
unfolding image_after
after-risen [] image g w = record { volume = refl; places = refl; slotted = refl; rises = λ n a b. omega arith }
after-risen (call ∷ calls) image g w =
    let s = step_is call image g w.0 in
    let r = after-risen calls (step call image) s.good w.1 in
    record {
      volume = r.volume ∙ s.volume;
      places = r.places ∙ s.places;
      slotted = r.slotted ∙ s.slotted;
      rises = λ n a b. omega (arith, s.rises n a b, r.rises n a (omega (arith, s.slotted)));
    }

pub steady : VolumeSteady
steady image bytes a calls w =
    let g = accepted-good image bytes a in
    let r = after-risen calls image g w in
    record {
      opens = opens-all (image_after calls image) (after-good calls image g w).opens;
      volume = r.volume;
      places = r.places;
      slotted = r.slotted;
      rises = λ n a b. omega (arith, r.rises n a b);
    }
