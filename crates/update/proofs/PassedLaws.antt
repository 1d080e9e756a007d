-- What is known where no test of a call refuses it.
use Rattle.std.specs.Prelude.{Ok}
use mathlib.Core.Path.{◌≡◌, refl, ap, ◌∙◌}
use mathlib.Core.Bool.{true, false, not, and-eq-true_iff}
use mathlib.Core.List.{List}
use Prim.Native.Nat.{ℕ, ◌-◌, ◌≤◌, ◌<◌}
use native.Mathlib.Omega.{arith}
use borrow.Author.Tests.{leb-true, leb-false, ltb-true, not-true}
use lib.Dec.{leb, ltb}
use Rattle.lists.proofs.FirstLaws.{first-has}
use Rattle.answer.specs.declared.types.FileId.{FileId}
use Rattle.answer.specs.declared.types.Name.{Name}
use Rattle.answer.specs.declared.refusal.Refusal.TheVariants as refusal
use Rattle.answer.proofs.OutcomeLaws.{passed_then, passed_first, passed-last}
use Rattle.names.specs.Names.{proper}
use Rattle.header.specs.Fields.{h_fseq}
use Rattle.volume.specs.Volume.{fmax, slots, has_slot, header, in_use, is_number}
use Rattle.open_file.specs.Opening.{Gate, anyone, open_file}
use Rattle.open_file.proofs.OpeningLaws.{Opened, opened}
use Rattle.verdict.specs.Verdict.{verdict}
use Rattle.sound.specs.Claims.{IsFile}
use Rattle.spare_number.specs.SpareNumber.{is_spare, spare_number}
use Rattle.update.specs.Create.{create_tests, create_outcome}
use Rattle.update.specs.Extend.{is_known_number, is_count, has_room, has_run, extend_tests, extend_outcome}
use Rattle.header.specs.Flags.{is_fixed}
use Rattle.chains.specs.Chains.{last_number}
use Rattle.update.specs.Delete.{delete_tests, delete_outcome}

-- A number that create takes.
pub record Spare (image : List ℕ) (n : ℕ) : Type 0 where
  pub low : 6 ≤ n
  pub unused : in_use image n ≡ false
  pub has : n ≤ slots image
  pub word : h_fseq (header image n) < 65535

spare-is : (image : List ℕ) (n : ℕ) → 6 ≤ n → is_spare image n ≡ true → Spare image n
unfolding is_spare has_slot
spare-is image n low t =
    let both = (and-eq-true_iff _ (ltb (h_fseq (header image n)) 65535)).0 t in
    let left = (and-eq-true_iff _ (leb n (slots image))).0 both.0 in
    record {
      low = low;
      unused = not-true (in_use image n) left.0;
      has = leb-true n (slots image) left.1;
      word = ltb-true (h_fseq (header image n)) 65535 both.1;
    }

-- The lowest that there is, where it is no higher than H.FMAX.
pub free-spare : (image : List ℕ) (n : ℕ) → n ≡ spare_number image → n ≤ fmax image → Spare image n
unfolding spare_number
free-spare image n e l =
    let f = first-has (is_spare image) 6 (fmax image - 5) in
    spare-is image n (omega (arith, e, f.low)) (ap (is_spare image) e ∙ f.here (omega (arith, e)))

pub record CreatePassed (image : List ℕ) (name : Name) : Type 0 where
  pub named : proper name ≡ true
  pub high : spare_number image ≤ fmax image
  pub spare : Spare image (spare_number image)

pub create-passed : (image : List ℕ) (name : Name) (b h : ℕ) → create_outcome image name b h ≡ Ok tt → CreatePassed image name
unfolding create_outcome create_tests
create-passed image name b h e =
    let judged = passed_then (verdict image b h) _ e in
    let named = passed_first (proper name) refusal.Name _ judged.1 in
    let high = leb-true (spare_number image) (fmax image) (passed-last (leb (spare_number image) (fmax image)) refusal.Nonumber named.1) in
    record { named = named.0; high = high; spare = free-spare image (spare_number image) refl high }

-- A file that opens is a file.
pub opened-file : {gate : Gate} (image : List ℕ) (id : FileId) → Opened gate image id → IsFile image id.number
unfolding is_number
opened-file image id o = record {
  used = ((and-eq-true_iff (in_use image id.number) (has_slot image id.number)).0 o.found.first.0).0;
  first = o.found.first.2;
}

pub not_known : (n : ℕ) → not (is_known_number n) ≡ true → 6 ≤ n
unfolding is_known_number
not_known n t = omega (arith, leb-false n _ (not-true _ t))

pub record DeletePassed (image : List ℕ) (id : FileId) : Type 0 where
  pub opens : Opened anyone image id
  pub file : IsFile image id.number
  pub above : 6 ≤ id.number

pub delete-passed : (image : List ℕ) (id : FileId) (b h : ℕ) → delete_outcome image id b h ≡ Ok tt → DeletePassed image id
unfolding delete_outcome delete_tests
delete-passed image id b h e =
    let judged = passed_then (verdict image b h) _ e in
    let file = passed_then (open_file image id) _ judged.1 in
    let o = opened image id file.0 in
    record {
      opens = o;
      file = opened-file image id o;
      above = not_known id.number (passed-last (not (is_known_number id.number)) refusal.Known file.1);
    }

pub record ExtendPassed (image : List ℕ) (id : FileId) (c : ℕ) : Type 0 where
  pub opens : Opened anyone image id
  pub file : IsFile image id.number
  pub above : 6 ≤ id.number
  pub counted : is_count c ≡ true
  pub room : has_room (header image (last_number image id.number)) ≡ true
  pub run : has_run image c ≡ true

pub extend-tested : (image : List ℕ) (id : FileId) (c : ℕ) → extend_tests image id c ≡ Ok tt → ExtendPassed image id c
unfolding extend_tests
extend-tested image id c e =
    let file = passed_then (open_file image id) _ e in
    let above = passed_first (not (is_known_number id.number)) refusal.Known _ file.1 in
    let loose = passed_first (not (is_fixed (header image id.number))) refusal.Fixed _ above.1 in
    let counted = passed_first (is_count c) refusal.Count _ loose.1 in
    let room = passed_first (has_room (header image (last_number image id.number))) refusal.Full _ counted.1 in
    let o = opened image id file.0 in
    record {
      opens = o;
      file = opened-file image id o;
      above = not_known id.number above.0;
      counted = counted.0;
      room = room.0;
      run = passed-last (has_run image c) refusal.Run room.1;
    }

pub extend-passed : (image : List ℕ) (id : FileId) (c b h : ℕ) → extend_outcome image id c b h ≡ Ok tt → ExtendPassed image id c
unfolding extend_outcome
extend-passed image id c b h e = extend-tested image id c (passed_then (verdict image b h) (extend_tests image id c) e).1
