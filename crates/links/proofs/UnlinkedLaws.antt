-- A volume whose headers in use are each the only one of their file passes LINKS, with no number linked.
use Rattle.std.specs.Prelude.{Ok}
use mathlib.Core.Path.{◌≡◌, refl, ◌∙◌}
use mathlib.Core.Bool.{Bool, true, false}
use mathlib.Core.List.{List, [], ◌∷◌}
use Prim.Native.Nat.{ℕ, zero, suc, ◌+◌, ◌≤◌}
use native.Mathlib.Numerals.{add-one}
use native.Mathlib.Omega.{arith}
use borrow.Author.Tests.{eq-eqb}
use Rattle.lists.specs.Counts.{count}
use Rattle.lists.proofs.CountLaws.{count_none, count-skip, count-append}
use Rattle.header.specs.Fields.{segment}
use Rattle.volume.specs.Volume.{fmax, header, in_use}
use Rattle.slots.specs.Slots.{gathered}
use Rattle.slots.proofs.SlotLaws.{used-range, gathered_none, gathered-used, gathered-unused}
use Rattle.chains.proofs.LinkLaws.{link-end}
use Rattle.marks.specs.Marks.{capped, tallied, cleared}
use Rattle.marks.proofs.MarkLaws.{tallied-same}
use Rattle.files.specs.Single.{Unlinked}
use Rattle.links.specs.Links.{link_of, linked, links_wanted, links}
use Rattle.links.proofs.LinksLaws.{cleared-is, links-all}

-- Where no header in use links to another.
module _ (image : List ℕ) (p : Unlinked image) where
  -- No number stands among the links.
  unlinked-count : (k x : ℕ) → 1 ≤ x → count x (gathered image link_of k) ≡ 0
  unfolding link_of
  unlinked-count zero x l = rw (gathered_none image link_of) (count_none x)
  unlinked-count (suc k) x l = rw (← add-one k) (go (unlinked-count k x l) (in_use image (k + 1)) refl)
    where
      go : count x (gathered image link_of k) ≡ 0 → (t : Bool) → in_use image (k + 1) ≡ t → count x (gathered image link_of (k + 1)) ≡ 0
      go before true u =
          rw (gathered-used image link_of k u, p.ends (k + 1) u)
          (omega (arith, count-append x (gathered image link_of k) (0 ∷ []), before, count-skip x 0 [] (λ z. omega arith), count_none x))
      go before false u = rw (gathered-unused image link_of k u) before

  pub unlinked-links : links image ≡ Ok tt
  unfolding linked links_wanted
  unlinked-links = links-all image (record {
    good = λ n u. link-end image (header image n) (p.ends n u);
    times = λ n u. rw (eq-eqb (segment (header image n)) 0 (p.first n u)) (unlinked-count (fmax image) n (used-range image n u).0);
  })

  pub unlinked-marks : (k m : ℕ) (area : List ℕ) → m ≡ k → cleared area m ≡ tallied (linked image) 1 k area
  unfolding linked capped
  unlinked-marks k m area e =
      cleared-is 1 k m area e
      ∙ tallied-same [] (linked image) 1 k area (λ i l. omega (arith, count_none (1 + i), unlinked-count (fmax image) (1 + i) (omega arith)))
