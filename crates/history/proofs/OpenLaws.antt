-- Files of a usable image open: each link of a chain is good, so that only the ID and the flags can refuse.
use Rattle.std.specs.Prelude.{Ok, Err}
use mathlib.Core.Path.{◌≡◌, refl, ◌∙◌}
use mathlib.Core.Bool.{Bool, true, false}
use mathlib.Core.List.{List, [], ◌∷◌}
use Prim.Native.Nat.{ℕ}
use native.Mathlib.Omega.{arith}
use borrow.Author.Tests.{le-leb}
use Rattle.answer.specs.declared.types.FileId.{FileId}
use Rattle.answer.specs.declared.refusal.Refusal.TheVariants as refusal
use Rattle.header.specs.Fields.{h_fseq}
use Rattle.volume.specs.Volume.{slots, has_slot, header, in_use, is_number}
use Rattle.volume.proofs.VolumeLaws.{opens-all}
use Rattle.chains.specs.Chains.{chain_of, good_link_of, good_chain}
use Rattle.lists.specs.Lists.{every}
use Rattle.open_file.specs.Opening.{Gate, open_on, open_by}
use Rattle.header.specs.Flags.{locked}
use Rattle.chains.proofs.FindingLaws.{find-number, find-passed}
use Rattle.open_file.proofs.OpeningLaws.{find-unfound, find-sequence, found_passed, access-passed, chained-passed, by-on, on-unfound, on-chained}
use Rattle.lists.specs.Counts.{In}
use Rattle.sound.specs.Claims.{IsFile}
use Rattle.sound.proofs.MemberLaws.{in-here, in_tail}
use Rattle.sound.proofs.ChainLaws.{chain_first, member-used}
use Rattle.sound.proofs.LinksLaws.{link-is}
use Rattle.update.proofs.Effects.{Usable}

every-all : (p : ℕ → Bool) (l : List ℕ) → ((x : ℕ) → In x l → p x ≡ true) → every p l ≡ true
unfolding every
every-all p [] h = refl
every-all p (n ∷ ns) h = rw (h n (in-here n ns)) (every-all p ns (λ x m. h x (in_tail x n ns m)))

module _ (image : List ℕ) (g : Usable image) where
  pub used-number : (n : ℕ) → in_use image n ≡ true → is_number image n ≡ true
  unfolding is_number has_slot
  used-number n u = rw (u, le-leb n (slots image) (g.safe.slotted n u)) refl

  pub good-chain : (n : ℕ) → IsFile image n → good_chain image n ≡ true
  unfolding good_chain good_link_of
  good-chain n file =
      every-all (good_link_of image) (chain_of image n) (λ x m. (link-is image x).holds (g.safe.link x (member-used image g.safe n file x m)))

  -- A file's own header is a member of its chain.
  pub first-in : (f : ℕ) → IsFile image f → In f (chain_of image f)
  unfolding chain_of
  first-in f file = chain_first image g.safe g.bytes 256 f (omega (arith, file.first))

  -- Opening, whatever the gate.
  module _ (gate : Gate) (id : FileId) (v : id.volume ≡ 0) where
    opening : open_by gate image id ≡ open_on gate image id
    opening = by-on gate image id (opens-all image g.opens)

    pub open-unused : in_use image id.number ≡ false → open_by gate image id ≡ Err refusal.Number
    unfolding is_number
    open-unused u = opening ∙ on-unfound gate image id refusal.Number (find-unfound image id v refusal.Number (find-number image id.number (rw u)))

    pub open-stale : in_use image id.number ≡ true → (h_fseq (header image id.number) ≡ id.sequence → ⊥) → open_by gate image id ≡ Err refusal.Sequence
    open-stale u ne = opening ∙ on-unfound gate image id refusal.Sequence (find-sequence image id v (find-passed image id.number (used-number id.number u) (g.safe.whole id.number u)) ne)

    pub open-file : IsFile image id.number → h_fseq (header image id.number) ≡ id.sequence → gate (header image id.number) ≡ Ok tt
        → locked (header image id.number) ≡ false → open_by gate image id ≡ Ok tt
    open-file file q admitted unlocked =
        let n = id.number in
        opening
        ∙ on-chained gate image id (found_passed image id v (find-passed image n (used-number n file.used) (g.safe.whole n file.used)) q file.first)
        admitted (access-passed image id unlocked)
        ∙ chained-passed image id (good-chain n file)
