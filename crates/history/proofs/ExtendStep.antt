-- What an extend that is not refused does to a good image.
use Rattle.std.specs.Prelude.{Ok}
use mathlib.Core.Path.{◌≡◌, sym, ap, ◌∙◌}
use mathlib.Core.Bool.{false≢true}
use mathlib.Core.List.{List}
use Prim.Native.Nat.{ℕ, ◌≤◌}
use native.Mathlib.Omega.{arith}
use native.Mathlib.Decide.{ℕ_discrete}
use lib.ListN.{length}
use Rattle.answer.specs.declared.types.FileId.{FileId}
use Rattle.header.specs.Fields.{h_fseq}
use Rattle.volume.specs.Volume.{slots, header}
use Rattle.chains.specs.Chains.{chain_of, last_number}
use Rattle.lists.specs.Counts.{In}
use Rattle.sound.specs.Claims.{IsFile}
use Rattle.sound.proofs.ChainLaws.{known-file, member-used, chains-apart}
use Rattle.update.specs.Extend.{run_start, extend_outcome, with_blocks}
use Rattle.update.proofs.Effects.{Good, good-usable}
use Rattle.update.proofs.FrameLaws.{volume-same, record_same, slots_same, header-same, opens-after, kept}
use Rattle.update.proofs.PassedLaws.{ExtendPassed, extend-passed}
use Rattle.update.proofs.LastLaws.{last-member}
use Rattle.update.proofs.ExtendSound.{extend-sound}
use Rattle.update.proofs.ExtendLaws.{Extending, extend-written, extend-stays, extend-bytes, extend-length, extend-effect, extend-others, run_fits, run-has}
use Rattle.update.proofs.DeleteLaws.{delete-known}
use Rattle.history.specs.Calls.{extend, Names}
use Rattle.history.proofs.Step.{Step}

-- The file that a call opened has the sequence of the call's ID.
pub opened-sequence : (image : List ℕ) (id : FileId) (f : ℕ) → h_fseq (header image id.number) ≡ id.sequence → f ≡ id.number → h_fseq (header image f) ≡ id.sequence
opened-sequence image id f q e = ap (λ (k : ℕ). h_fseq (header image k)) e ∙ q

module _ (image : List ℕ) (g : Good image) (id : FileId) (c : ℕ) (area headers : List ℕ) (p : extend_outcome image id c (length area) (length headers) ≡ Ok tt) where
  abbrev n : ℕ
  n = last_number image id.number

  abbrev s : ℕ
  s = run_start image c

  pub facts : ExtendPassed image id c
  facts = extend-passed image id c (length area) (length headers) p

  pub member : In n (chain_of image id.number)
  member = last-member image g.bytes g.sound.safe id.number facts.file

  known : (6 ≤ n) × (n ≤ slots image)
  known = delete-known (record { usable = good-usable g; file = facts.file; high = facts.above }) n member

  -- The last header of a file above 5 is none of the index file's.
  apart-one : In n (chain_of image 1) → ⊥
  apart-one m =
      let s = g.sound.safe in
      omega (arith, facts.above, chains-apart image s 1 id.number (known-file image s 1 (omega arith) (omega arith)) facts.file n m member)

  pub extending : Extending image n s c
  extending = record {
    usable = good-usable g;
    low = known.0;
    used = member-used image g.sound.safe id.number facts.file n member;
    apart = λ m. apart-one m;
    room = facts.room;
    counted = facts.counted;
    fits = run_fits image c facts.run;
    free = run-has image c facts.run;
  }

  abbrev pub z : List ℕ
  z = with_blocks image n s c

  -- The last header of the file is a member of no other file's chain.
  apart : (f : ℕ) → IsFile image f → (f ≡ id.number → ⊥) → (x : ℕ) → In x (chain_of image f) → x ≡ n → ⊥
  apart f file ne x m e = ne (chains-apart image g.sound.safe f id.number file facts.file n (rw e at m) member)

  word : (k : ℕ) → 1 ≤ k → k ≤ slots image → Dec (k ≡ n) → h_fseq (header z k) ≡ h_fseq (header image k)
  word k a b (yes e) = rw e (extend-effect extending).fseq
  word k a b (no ne) = ap h_fseq (header-same (extend-written extending) (extend-stays extending) k a b ne)

  pub extend-step : Step (extend id c area headers) image z
  extend-step =
      let written = extend-written extending in
      let bits = extend-stays extending in
      let other : (f : ℕ) → (Names (extend id c area headers) f (h_fseq (header image f)) → ⊥) → f ≡ id.number → ⊥ =
      λ f unnamed e. unnamed (sym e, omega (arith, opened-sequence image id f facts.opens.found.sequence e)) in
      record {
        good = record { bytes = extend-bytes extending; opens = opens-after written bits; sound = extend-sound image z n s c g.sound (extend-effect extending) };
        volume = volume-same written bits;
        places = record_same written bits;
        slotted = slots_same written bits;
        used = λ f above file unnamed. (extend-effect extending).used f ∙ file.used;
        kept = λ f above file unnamed. kept written bits f (omega arith) file (apart f file (other f unnamed));
        rises = λ k a b. omega (arith, word k a b (ℕ_discrete k n));
        renewed = λ k a b was is. absurd (false≢true (sym was ∙ sym ((extend-effect extending).used k) ∙ is));
        size = extend-length extending;
        others = λ k out. extend-others extending k out.0 out.1;
      }
