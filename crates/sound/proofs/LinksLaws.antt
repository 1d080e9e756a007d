-- LINKS is passed exactly where every header in use has a good link and is linked as often as its segment number says.
use mathlib.Core.Path.{◌≡◌, refl, sym, ◌∙◌}
use mathlib.Core.Bool.{true}
use mathlib.Core.List.{List}
use Prim.Native.Nat.{ℕ, ◌+◌, ◌<◌}
use native.Mathlib.Decide.{ℕ_discrete, dec_lt}
use native.Mathlib.Omega.{arith}
use borrow.Author.Tests.{eq-eqb, ne_eqb}
use lib.Dec.{eqb}
use Rattle.answer.specs.declared.refusal.Refusal.TheVariants as refusal
use Rattle.header.specs.Fields.{h_fseq, segment, m_efnu, m_efsq}
use Rattle.volume.specs.Volume.{follows, fmax, slots, has_slot, header, fault_of, in_use, is_number}
use Rattle.chains.specs.Chains.{links_on, good_link}
use Rattle.lists.specs.Counts.{count}
use Rattle.lists.proofs.SumLaws.{sum_to}
use Rattle.links.specs.Links.{link_of, linked, links_wanted, bad_links, links_place, links}
use Rattle.sound.specs.Sound.{GoodLink, OneLink}
use Rattle.sound.proofs.Tests.{Tests, Judges, t-eq, t-le, t-is, t-and, t-or, t-map, s-unmet, j-each, j-map}
use Rattle.slots.proofs.SlotLaws.{used-range}
use Rattle.sound.proofs.GatherLaws.{given_by, Gives, gathered-count, gathered-has, gathered-find, gathered-apart, gathered-once}

-- No header in use links to n.
abbrev pub NoLink : List ℕ → ℕ → Type 0
NoLink image n = (k : ℕ) → in_use image k ≡ true → m_efnu (header image k) ≡ n → ⊥

pub record LinksSound (image : List ℕ) : Type 0 where
  pub link : (n : ℕ) → in_use image n ≡ true → (m_efnu (header image n) ≡ 0 → ⊥) → GoodLink image n
  pub first : (n : ℕ) → in_use image n ≡ true → segment (header image n) ≡ 0 → NoLink image n
  pub later : (n : ℕ) → in_use image n ≡ true → (segment (header image n) ≡ 0 → ⊥) → OneLink image n

module _ (image : List ℕ) (n : ℕ) where
  pub link-is : Tests (good_link image (header image n)) ((m_efnu (header image n) ≡ 0 → ⊥) → GoodLink image n)
  unfolding good_link links_on follows fault_of is_number has_slot
  link-is =
      let h = header image n in
      let m = m_efnu h in
      t-or (t-eq m 0)
      (t-map
      (λ r. record { used = r.0.0; slotted = r.0.1; whole = r.1.0.0; sequence = r.1.0.1; next = r.1.1 })
      (λ g. ((g.used, g.slotted), ((g.whole, g.sequence), g.next)))
      (t-and (t-and (t-is (in_use image m)) (t-le m (slots image)))
      (t-and (t-and (t-eq (fault_of image m) 0) (t-eq (h_fseq (header image m)) (m_efsq h))) (t-eq (segment (header image m)) (segment h + 1)))))

  -- M.EFNU of the header of k, as a list of one.
  link-given : (k : ℕ) → in_use image k ≡ true → m_efnu (header image k) ≡ n → Gives image link_of k 0 n
  unfolding link_of
  link-given k u e = record { used = u; inside = omega arith; here = e }

  given-first : (k p : ℕ) → Gives image link_of k p n → p ≡ 0
  unfolding link_of
  given-first k p g = omega (arith, g.inside)

  given-link : (k p : ℕ) → Gives image link_of k p n → m_efnu (header image k) ≡ n
  unfolding link_of
  given-link k p g = rw (given-first k p g) at g.here

  -- Linked by none, and by exactly one.
  none_is : Tests (eqb (count n (linked image)) 0) (NoLink image n)
  unfolding linked
  none_is =
      t-map
      (λ e k u l. omega (arith, gathered-has image link_of n k 0 (link-given k u l)))
      (λ none. go none (dec_lt 0 (count n (linked image))))
      (t-eq (count n (linked image)) 0)
    where
      go : NoLink image n → Dec (0 < count n (linked image)) → count n (linked image) ≡ 0
      go none (yes l) =
          let f = gathered-find image link_of n l in
          absurd (none f.number f.gives.used (given-link f.number f.place f.gives))
      go none (no l) = omega arith

  one-is : Tests (eqb (count n (linked image)) 1) (OneLink image n)
  unfolding linked
  one-is = t-map there back (t-eq (count n (linked image)) 1)
    where
      there : count n (linked image) ≡ 1 → OneLink image n
      there e =
          let f = gathered-find image link_of n (omega arith) in
          record {
            from = f.number;
            used = f.gives.used;
            links = given-link f.number f.place f.gives;
            only = λ k u l. (gathered-apart image link_of n (omega arith) k 0 f.number f.place (link-given k u l) f.gives).0;
          }

      back : OneLink image n → count n (linked image) ≡ 1
      back o =
          let some = gathered-has image link_of n o.from 0 (link-given o.from o.used o.links) in
          let few = gathered-once image link_of n (λ k p m q g l. (
            o.only k g.used (given-link k p g) ∙ sym (o.only m l.used (given-link m q l)),
            given-first k p g ∙ sym (given-first m q l),
          )) in
          omega arith

  times-are : Tests (eqb (count n (linked image)) (links_wanted (header image n)))
      ((segment (header image n) ≡ 0 → NoLink image n) × ((segment (header image n) ≡ 0 → ⊥) → OneLink image n))
  unfolding links_wanted
  times-are = go (ℕ_discrete (segment (header image n)) 0)
    where
      go : Dec (segment (header image n) ≡ 0)
          → Tests (eqb (count n (linked image)) (links_wanted (header image n)))
          ((segment (header image n) ≡ 0 → NoLink image n) × ((segment (header image n) ≡ 0 → ⊥) → OneLink image n))
      go (yes e) = rw (eq-eqb (segment (header image n)) 0 e) (t-map (λ none. (λ z. none, λ ne. absurd (ne e))) (λ r. r.0 e) none_is)
      go (no ne) = rw (ne_eqb (segment (header image n)) 0 ne) (t-map (λ one. (λ z. absurd (ne z), λ z. one)) (λ r. r.1 ne) one-is)

-- How often n is linked is a sum over the headers in use.
pub linked-count : (image : List ℕ) (n : ℕ) → count n (linked image) ≡ sum_to (fmax image) (given_by image link_of n)
unfolding linked
linked-count image n = gathered-count image link_of n (fmax image)

pub links-judges : (image : List ℕ) → Judges (links image) (LinksSound image)
unfolding links links_place bad_links
links-judges image =
    j-map
    (λ r. record {
      link = λ n u. let g = used-range image n u in (r n g.0 (omega arith) u).0;
      first = λ n u. let g = used-range image n u in (r n g.0 (omega arith) u).1.0;
      later = λ n u. let g = used-range image n u in (r n g.0 (omega arith) u).1.1;
    })
    (λ w n a b u. (w.link n u, (w.first n u, w.later n u)))
    (j-each 1 (fmax image) (1 + fmax image) (refusal.Links (links_place image)) refl
    (λ n. s-unmet (t-is (in_use image n)) (t-and (link-is image n) (times-are image n))))
