-- What a delete that is not refused does to a good image.
use Rattle.std.specs.Prelude.{Ok}
use mathlib.Core.Path.{◌≡◌, sym, ap, ◌∙◌}
use mathlib.Core.Bool.{true, false, false≢true}
use mathlib.Core.List.{List}
use Prim.Native.Nat.{ℕ, ◌≤◌, ◌<◌}
use native.Mathlib.Omega.{arith}
use native.Mathlib.Decide.{dec_lt}
use lib.ListN.{length}
use Rattle.image.proofs.BlockLaws.{block-bytes}
use Rattle.answer.specs.declared.types.FileId.{FileId}
use Rattle.header.specs.Fields.{h_fseq}
use Rattle.volume.specs.Volume.{slot, slots, header, in_use}
use Rattle.chains.specs.Chains.{chain_of}
use Rattle.lists.specs.Counts.{count, In}
use Rattle.sound.specs.Claims.{IsFile}
use Rattle.sound.proofs.ChainLaws.{chains-apart}
use Rattle.header_edit.proofs.ClearedLaws.{cleared-fseq}
use Rattle.update.specs.Delete.{delete_outcome, without_numbers}
use Rattle.update.proofs.Effects.{Good, good-usable}
use Rattle.update.proofs.FrameLaws.{volume-same, record_same, slots_same, header-same, opens-after, kept}
use Rattle.update.proofs.PassedLaws.{DeletePassed, delete-passed}
use Rattle.update.proofs.DeleteSound.{delete-sound}
use Rattle.update.proofs.DeleteLaws.{Deleting, delete-written, delete-stays, delete-headers, delete-bytes, delete-length, delete-effect, delete-others}
use Rattle.history.specs.Calls.{delete, Names}
use Rattle.history.proofs.Step.{Step}
use Rattle.history.proofs.OpenLaws.{first-in}
use Rattle.history.proofs.ExtendStep.{opened-sequence}

module _ (image : List ℕ) (g : Good image) (id : FileId) (area headers : List ℕ) (p : delete_outcome image id (length area) (length headers) ≡ Ok tt) where
  abbrev l : List ℕ
  l = chain_of image id.number

  abbrev pub z : List ℕ
  z = without_numbers image l

  pub facts : DeletePassed image id
  facts = delete-passed image id (length area) (length headers) p

  pub deleting : Deleting image id.number
  deleting = record { usable = good-usable g; file = facts.file; high = facts.above }

  -- No member of the chain is a member of another file's chain.
  apart : (f : ℕ) → IsFile image f → (f ≡ id.number → ⊥) → (x : ℕ) → In x (chain_of image f) → In x l → ⊥
  apart f file ne x m i = ne (chains-apart image g.sound.safe f id.number file facts.file x m i)

  stays : (f : ℕ) → IsFile image f → (f ≡ id.number → ⊥) → Dec (0 < count f l) → in_use z f ≡ true
  stays f file ne (yes i) = absurd (apart f file ne f (first-in image (good-usable g) f file) i)
  stays f file ne (no i) = (delete-effect deleting).used f (omega arith) ∙ file.used

  pub word : (k : ℕ) → 1 ≤ k → k ≤ slots image → Dec (0 < count k l) → h_fseq (header z k) ≡ h_fseq (header image k)
  unfolding header
  word k a b (yes i) = ap h_fseq (delete-headers deleting k i) ∙ cleared-fseq (header image k) (block-bytes image (slot image k) g.bytes)
  word k a b (no i) = ap h_fseq (header-same (delete-written deleting) (delete-stays deleting) k a b i)

  unused : (k : ℕ) → Dec (0 < count k l) → in_use image k ≡ false → in_use z k ≡ false
  unused k (yes i) was = (delete-effect deleting).gone k i
  unused k (no i) was = (delete-effect deleting).used k (omega arith) ∙ was

  pub delete-step : Step (delete id area headers) image z
  delete-step =
      let written = delete-written deleting in
      let bits = delete-stays deleting in
      let other : (f : ℕ) → (Names (delete id area headers) f (h_fseq (header image f)) → ⊥) → f ≡ id.number → ⊥ =
      λ f unnamed e. unnamed (sym e, omega (arith, opened-sequence image id f facts.opens.found.sequence e)) in
      record {
        good = record {
          bytes = delete-bytes deleting;
          opens = opens-after written bits;
          sound = delete-sound image z id.number g.bytes g.sound facts.file facts.above (delete-effect deleting);
        };
        volume = volume-same written bits;
        places = record_same written bits;
        slotted = slots_same written bits;
        used = λ f above file unnamed. stays f file (other f unnamed) (dec_lt 0 (count f l));
        kept = λ f above file unnamed. kept written bits f (omega arith) file (apart f file (other f unnamed));
        rises = λ k a b. omega (arith, word k a b (dec_lt 0 (count k l)));
        renewed = λ k a b was is. absurd (false≢true (sym (unused k (dec_lt 0 (count k l)) was) ∙ is));
        size = delete-length deleting;
        others = λ k out.
            (delete-others deleting).same k (record { slots = λ n i. (out.0 n i).0; index = λ n i. (out.0 n i).1; storage = out.1 });
      }
