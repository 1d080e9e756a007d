-- What a create that is not refused does to a good image.
use Rattle.std.specs.Prelude.{Ok}
use mathlib.Core.Path.{◌≡◌, refl, sym, ap, ◌∙◌}
use mathlib.Core.Bool.{true, false, false≢true}
use mathlib.Core.List.{List}
use Prim.Native.Nat.{ℕ, ◌≤◌, ◌<◌}
use native.Mathlib.Omega.{arith}
use native.Mathlib.Decide.{ℕ_discrete}
use lib.ListN.{length}
use Rattle.answer.specs.declared.types.Name.{Name}
use Rattle.header.specs.Fields.{h_fseq}
use Rattle.home.specs.Home.{blocks}
use Rattle.volume.specs.Volume.{slots, header, in_use}
use Rattle.volume.proofs.VolumeLaws.{fmax-below}
use Rattle.sound.proofs.ChainLaws.{member-used}
use Rattle.fresh_header.specs.Fresh.{fresh_header}
use Rattle.fresh_header.proofs.FreshLaws.{fresh-is}
use Rattle.spare_number.specs.SpareNumber.{spare_number}
use Rattle.update.specs.Create.{create_outcome, with_file, with_number, new_sequence}
use Rattle.update.proofs.Effects.{Good, good-usable}
use Rattle.update.proofs.FrameLaws.{volume-same, record_same, slots_same, header-same, opens-after, kept}
use Rattle.update.proofs.PassedLaws.{CreatePassed, create-passed}
use Rattle.update.proofs.DoneLaws.{sequence-above}
use Rattle.update.proofs.CreateSound.{create-sound}
use Rattle.update.proofs.CreateLaws.{Creating, create-written, create-stays, create-header, create-bytes, create-length, create-effect, create-others}
use Rattle.history.specs.Calls.{create, Words}
use Rattle.history.proofs.Step.{Step}

module _ (image : List ℕ) (g : Good image) (name : Name) (owner protection : ℕ) (area headers : List ℕ) (w : Words (create name owner protection area headers))
    (p : create_outcome image name (length area) (length headers) ≡ Ok tt) where
  abbrev n : ℕ
  n = spare_number image

  abbrev q : ℕ
  q = new_sequence image n

  abbrev h : List ℕ
  h = fresh_header n q owner protection name

  facts : CreatePassed image name
  facts = create-passed image name (length area) (length headers) p

  pub creating : Creating image n q h
  unfolding new_sequence
  creating = record {
    usable = good-usable g;
    low = facts.spare.low;
    has = facts.spare.has;
    high = facts.high;
    was = facts.spare.unused;
    fresh =
        fresh-is (blocks image) n q owner protection name (omega (arith, facts.high, fmax-below image g.bytes)) (omega (arith, facts.spare.word)) w.1 w.2
        w.0.0 w.0.1 w.0.2 w.0.3 w.0.4;
  }

  abbrev pub z : List ℕ
  z = with_number image n h

  -- A number in use is another one.
  other : (k : ℕ) → in_use image k ≡ true → k ≡ n → ⊥
  other k u e = false≢true (sym facts.spare.unused ∙ ap (in_use image) (sym e) ∙ u)

  -- The sequence word of the number rises, and that of every other slot stays.
  new_word : h_fseq (header image n) < h_fseq (header z n)
  new_word = omega (arith, ap h_fseq (create-header creating), creating.fresh.fseq, sequence-above image n)

  old-word : (k : ℕ) → 1 ≤ k → k ≤ slots image → (k ≡ n → ⊥) → h_fseq (header z k) ≡ h_fseq (header image k)
  old-word k a b ne = ap h_fseq (header-same (create-written creating) (create-stays creating) k a b ne)

  rises : (k : ℕ) → 1 ≤ k → k ≤ slots image → Dec (k ≡ n) → h_fseq (header image k) ≤ h_fseq (header z k)
  rises k a b (yes e) = rw e (omega (arith, new_word))
  rises k a b (no ne) = omega (arith, old-word k a b ne)

  renewed : (k : ℕ) → in_use image k ≡ false → in_use z k ≡ true → Dec (k ≡ n) → h_fseq (header image k) < h_fseq (header z k)
  renewed k was is (yes e) = rw e (omega (arith, new_word))
  renewed k was is (no ne) = absurd (false≢true (sym was ∙ sym ((create-effect creating).others k ne) ∙ is))

  pub create-file : with_file image name owner protection ≡ z
  unfolding with_file
  create-file = refl

  pub create-step : Step (create name owner protection area headers) image z
  create-step =
      let written = create-written creating in
      let bits = create-stays creating in
      record {
        good = record { bytes = create-bytes creating; opens = opens-after written bits; sound = create-sound image z n g.sound (create-effect creating) };
        volume = volume-same written bits;
        places = record_same written bits;
        slotted = slots_same written bits;
        used = λ f above file unnamed. (create-effect creating).others f (other f file.used) ∙ file.used;
        kept = λ f above file unnamed. kept written bits f (omega arith) file (λ x m e. other x (member-used image g.sound.safe f file x m) e);
        rises = λ k a b. rises k a b (ℕ_discrete k n);
        renewed = λ k a b was is. renewed k was is (ℕ_discrete k n);
        size = create-length creating;
        others = λ k out. create-others creating k out.0 out.1;
      }
