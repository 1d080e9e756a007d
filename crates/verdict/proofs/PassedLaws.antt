-- What holds where the verdict is passed.
use Rattle.std.specs.Prelude.{Ok}
use mathlib.Core.Path.{◌≡◌, refl}
use mathlib.Core.Bool.{true, and-eq-true_iff}
use mathlib.Core.List.{List}
use Prim.Native.Nat.{ℕ, ◌≤◌}
use borrow.Author.Tests.{leb-true}
use lib.Dec.{leb}
use lib.ListN.{length}
use Rattle.answer.specs.declared.refusal.Refusal.TheVariants as refusal
use Rattle.answer.specs.Outcome.{unless, ◌then◌}
use Rattle.answer.proofs.OutcomeLaws.{passed_then, passed-last}
use Rattle.home.specs.Home.{blocks}
use Rattle.volume.specs.Volume.{fmax}
use Rattle.volume.specs.Opening.{open_volume}
use Rattle.marks.specs.Marks.{tallied}
use Rattle.files.specs.Files.{files}
use Rattle.links.specs.Links.{links}
use Rattle.covers.specs.Covered.{covered, twice, bad_map}
use Rattle.bad_home.specs.Homes.{bad_home}
use Rattle.verdict.specs.Verdict.{roomy, ready, verdict, afterwards, block_marks}

module _ (image : List ℕ) (b h : ℕ) where
  -- Areas that are long enough.
  pub roomy-is : roomy image b h ≡ true → (blocks image ≤ b) × (fmax image ≤ h)
  unfolding roomy
  roomy-is t =
      let r = (and-eq-true_iff (leb (blocks image) b) (leb (fmax image) h)).0 t in
      (leb-true (blocks image) b r.0, leb-true (fmax image) h r.1)

  module _ (p : verdict image b h ≡ Ok tt) where
    parts : (ready image b h ≡ Ok tt) × ((files image then links image then twice image then bad_home image then bad_map image) ≡ Ok tt)
    unfolding verdict
    parts = passed_then (ready image b h) (files image then links image then twice image then bad_home image then bad_map image) p

    opening : (open_volume image ≡ Ok tt) × (unless (roomy image b h) refusal.Work ≡ Ok tt)
    unfolding ready
    opening = passed_then (open_volume image) (unless (roomy image b h) refusal.Work) parts.0

    pub passed-opens : open_volume image ≡ Ok tt
    passed-opens = opening.0

    pub passed-room : (blocks image ≤ b) × (fmax image ≤ h)
    passed-room = roomy-is (passed-last (roomy image b h) refusal.Work opening.1)

    pub passed-files : files image ≡ Ok tt
    passed-files = (passed_then (files image) (links image then twice image then bad_home image then bad_map image) parts.1).0

    pub passed-links : links image ≡ Ok tt
    passed-links =
        (passed_then (links image) (twice image then bad_home image then bad_map image)
        (passed_then (files image) (links image then twice image then bad_home image then bad_map image) parts.1).1).0

-- The block marks are reached.
pub passed-marks : (image area headers : List ℕ) → verdict image (length area) (length headers) ≡ Ok tt
    → block_marks image area headers ≡ tallied (covered image) 0 (blocks image) area
unfolding block_marks afterwards ◌then◌
passed-marks image area headers p =
    let b = length area in
    let h = length headers in
    rw ((parts image b h p).0, passed-files image b h p, passed-links image b h p) refl
