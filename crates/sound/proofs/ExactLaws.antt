-- The verdict answers DONE exactly where the image opens and is sound: its rules one after the other, each with the part that it stands for.
use Rattle.std.specs.Prelude.{Ok, Err}
use mathlib.Core.Path.{◌≡◌, refl}
use mathlib.Core.Bool.{true, false≢true, ◌&&◌}
use mathlib.Core.List.{List}
use Prim.Native.Nat.{ℕ, ◌≤◌, ◌<◌}
use native.Mathlib.Omega.{arith}
use lib.Dec.{leb}
use lib.ListN.{length}
use borrow.Author.Tests.{le-leb}
use Rattle.answer.specs.declared.refusal.Refusal.TheVariants as refusal
use Rattle.answer.specs.Outcome.{unless, Outcome}
use Rattle.answer.specs.Answers.{answer_of}
use Rattle.answer.proofs.OutcomeLaws.{passed_then, then-passed}
use Rattle.home.specs.Home.{blocks, position, home_index}
use Rattle.volume.specs.Volume.{fmax}
use Rattle.volume.specs.Opening.{open_volume}
use Rattle.volume.proofs.VolumeLaws.{opens}
use Rattle.verdict.specs.declared.Counts.{Counts}
use Rattle.verdict.specs.Verdict.{roomy, ready, verdict, counts_of, judge_answer}
use Rattle.sound.specs.Sound.{BlockOf, Sound}
use Rattle.sound.specs.Claims.{is_done, VerdictExact}
use Rattle.sound.proofs.Tests.{Judges, j-map, j-then}
use Rattle.sound.proofs.FilesLaws.{FilesSound, files-judges}
use Rattle.sound.proofs.LinksLaws.{LinksSound, links-judges}
use Rattle.sound.proofs.CoverLaws.{Once, twice-judges}
use Rattle.sound.proofs.MapLaws.{MapSound, map-judges}
use Rattle.sound.proofs.HomeLaws.{home-judges}

-- Sound is its five parts.
abbrev Parts : List ℕ → Type 0
Parts image = FilesSound image × (LinksSound image × (Once image × (((i : ℕ) → i < home_index image → BlockOf image 3 (position i)) × MapSound image)))

sound-is : (image : List ℕ) → Parts image → Sound image
sound-is image r =
    let f = r.0 in
    let l = r.1.0 in
    let m = r.1.1.1.1 in
    record {
      safe = record {
        known = f.known;
        slotted = f.slotted;
        whole = f.whole;
        link = l.link;
        first = l.first;
        later = l.later;
        once = r.1.1.0;
        passed = r.1.1.1.0;
      };
      unmapped = m.unmapped;
      mapped = m.mapped;
      beyond = m.beyond;
    }

parts_are : (image : List ℕ) → Sound image → Parts image
parts_are image sound =
    let s = sound.safe in (
      record { known = s.known; slotted = s.slotted; whole = s.whole },
      (
        record { link = s.link; first = s.first; later = s.later },
        (s.once, (s.passed, record { unmapped = sound.unmapped; mapped = sound.mapped; beyond = sound.beyond })),
      ),
    )

-- Areas that are long enough leave only the opening to be passed.
ready-judges : (image : List ℕ) (b h : ℕ) → blocks image ≤ b → fmax image ≤ h → Judges (ready image b h) (open_volume image ≡ Ok tt)
unfolding ready unless roomy
ready-judges image b h room rest = record {
  yields = λ e. (passed_then (open_volume image) (unless (leb (blocks image) b && leb (fmax image) h) refusal.Work) e).0;
  holds = λ o. rw (then-passed (open_volume image) (unless (leb (blocks image) b && leb (fmax image) h) refusal.Work) o, le-leb (blocks image) b room, le-leb (fmax image) h rest);
}

pub verdict-judges : (image : List ℕ) (b h : ℕ) → blocks image ≤ b → fmax image ≤ h → Judges (verdict image b h) ((open_volume image ≡ Ok tt) × Sound image)
unfolding verdict
verdict-judges image b h room rest =
    j-then (ready-judges image b h room rest) (λ o.
    j-map (sound-is image) (parts_are image)
    (j-then (files-judges image (omega (arith, (opens image o).enough))) (λ f.
    j-then (links-judges image) (λ l.
    j-then (twice-judges image f.whole) (λ once.
    j-then (home-judges image) (λ passed. map-judges image))))))

done-judged : (o : Outcome) (counts : Counts) → is_done (answer_of o counts) ≡ true → o ≡ Ok tt
unfolding answer_of
done-judged (Ok tt) counts e = refl
done-judged (Err r) counts e = absurd (false≢true e)

judged-done : (o : Outcome) (counts : Counts) → o ≡ Ok tt → is_done (answer_of o counts) ≡ true
unfolding answer_of
judged-done o counts e = rw e

pub exact : VerdictExact
unfolding judge_answer
exact image area headers room rest =
    let j = verdict-judges image (length area) (length headers) room rest in
    let o = verdict image (length area) (length headers) in
    record {
      only = λ d. j.yields (done-judged o (counts_of image) d);
      always = λ e s. judged-done o (counts_of image) (j.holds (e, s));
    }
