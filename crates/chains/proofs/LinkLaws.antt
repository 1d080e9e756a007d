-- Laws of links: what a good link says, and where the link of a header leads.
use Rattle.std.specs.Prelude.{Some, None, Option, Ok}
use mathlib.Core.Path.{◌≡◌, refl, sym, ap, subst, ◌∙◌}
use mathlib.Core.Bool.{Bool, true, false, ◌&&◌, and-eq-true_iff}
use mathlib.Core.List.{List}
use Prim.Native.Nat.{ℕ, ◌+◌}
use native.Mathlib.Decide.{ℕ_discrete}
use borrow.Author.Tests.{eq-eqb, ne_eqb, eqb-true}
use lib.Dec.{eqb}
use lib.ListN.{length}
use Rattle.image.specs.Words.{Bytes}
use Rattle.image.specs.Blocks.{block}
use Rattle.answer.specs.declared.types.Lbn.{Lbn}
use Rattle.header.specs.Fields.{h_fseq, segment, m_efnu, m_efsq}
use Rattle.whole.specs.Whole.{fault}
use Rattle.home.specs.Home.{blocks}
use Rattle.volume.specs.declared.Volume.{Volume}
use Rattle.volume.specs.Volume.{follows, slot, header, fault_of, is_number, volume_of}
use Rattle.volume.specs.Opening.{open_volume}
use Rattle.volume.proofs.VolumeLaws.{says}
use Rattle.chains.specs.declared.Link.{Link}
use Rattle.chains.specs.declared.Link.TheVariants.{End, To, Bad}
use Rattle.chains.specs.Chains.{slot_in_use, links_on, good_link, link_from, NextHeader}
use Rattle.chains.proofs.NumberLaws.{segment-most, number-length}

-- What M.EFNU of header h names, where it names what it should.
pub record Linked (image h : List ℕ) : Type 0 where
  pub number : is_number image (m_efnu h) ≡ true
  pub whole : fault_of image (m_efnu h) ≡ 0
  pub sequence : h_fseq (header image (m_efnu h)) ≡ m_efsq h
  pub next : segment (header image (m_efnu h)) ≡ segment h + 1

module _ (image h : List ℕ) where
  pub links-on : links_on image h ≡ true → Linked image h
  unfolding links_on follows fault_of
  links-on t =
      let n = m_efnu h in
      let next = header image n in
      let b = eqb (fault (blocks image) n next) 0 in
      let c = eqb (h_fseq next) (m_efsq h) in
      let d = eqb (segment next) (segment h + 1) in
      let all = (and-eq-true_iff (is_number image n) (b && c && d)).0 t in
      let bcd = (and-eq-true_iff (b && c) d).0 all.1 in
      let bc = (and-eq-true_iff b c).0 bcd.0 in
      record {
        number = all.0;
        whole = eqb-true (fault (blocks image) n next) 0 bc.0;
        sequence = eqb-true (h_fseq next) (m_efsq h) bc.1;
        next = eqb-true (segment next) (segment h + 1) bcd.1;
      }

  pub link-end : m_efnu h ≡ 0 → good_link image h ≡ true
  unfolding good_link
  link-end e = rw (eq-eqb (m_efnu h) 0 e)

  pub link-more : (m_efnu h ≡ 0 → ⊥) → good_link image h ≡ links_on image h
  unfolding good_link
  link-more ne = rw (ne_eqb (m_efnu h) 0 ne)

  pub good-links : (m_efnu h ≡ 0 → ⊥) → good_link image h ≡ true → Linked image h
  good-links ne g = links-on (sym (link-more ne) ∙ g)

  -- The tests of the header that M.EFNU names, where that is a number in use with a slot.
  pub links-number : is_number image (m_efnu h) ≡ true
      → links_on image h ≡ follows (blocks image) h (header image (m_efnu h))
  unfolding links_on
  links-number e = rw e

  pub links-none : is_number image (m_efnu h) ≡ false → links_on image h ≡ false
  unfolding links_on
  links-none e = rw e

  -- Where the link leads, by its tests.
  pub link-is-end : m_efnu h ≡ 0 → link_from image h ≡ End
  unfolding link_from
  link-is-end e = rw (eq-eqb (m_efnu h) 0 e)

  pub link-is-to : (m_efnu h ≡ 0 → ⊥) → links_on image h ≡ true → (lbn : Lbn) → lbn.0 ≡ slot image (m_efnu h) → link_from image h ≡ To lbn
  unfolding link_from
  link-is-to ne t lbn e = rw (ne_eqb (m_efnu h) 0 ne, t, ← e)

  pub link-is-bad : (m_efnu h ≡ 0 → ⊥) → links_on image h ≡ false → link_from image h ≡ Bad
  unfolding link_from
  link-is-bad ne t = rw (ne_eqb (m_efnu h) 0 ne, t)

-- What is known of number n by the slot that was found for it.
abbrev pub Found : List ℕ → ℕ → Option Lbn → Type 0
Found image n (Some lbn) = (is_number image n ≡ true) × (lbn.0 ≡ slot image n)
Found image n None = is_number image n ≡ false

pub slot-found : (image : List ℕ) (n : ℕ) (s : Option Lbn) → slot_in_use image n ≡ s → Found image n s
unfolding slot_in_use
slot-found image n s e = subst (Found image n) e (go (is_number image n) refl)
  where
    go : (t : Bool) → is_number image n ≡ t → Found image n (slot_in_use image n)
    go true q = rw q (q, refl)
    go false q = rw q q

-- What is known of number n where a slot was found for it at an LBN, on a volume that opens.
pub record Lies (image : List ℕ) (n : ℕ) (lbn : Lbn) : Type 0 where
  pub number : is_number image n ≡ true
  pub at : lbn.0 ≡ slot image n
  pub is : block image lbn.0 ≡ header image n
  pub long : length (block image lbn.0) ≡ 512

pub slot-lies : (image : List ℕ) (n m : ℕ) (lbn : Lbn) → open_volume image ≡ Ok tt → slot_in_use image m ≡ Some lbn → m ≡ n → Lies image n lbn
unfolding header
slot-lies image n m lbn o e q =
    let found : Found image n (Some lbn) = slot-found image n (Some lbn) (rw q at e) in
    record { number = found.0; at = found.1; is = ap (block image) found.1; long = rw found.1 (number-length image n found.0 o) }

-- The tests of the block there, where n is what M.EFNU of header h names.
pub lies-tests : (image h : List ℕ) (v : Volume) (lbn : Lbn) → Lies image (m_efnu h) lbn → v ≡ volume_of image
    → links_on image h ≡ follows v.blocks h (block image lbn.0)
lies-tests image h v lbn l e = rw (l.is, (says image v e).blocks) (links-number image h l.number)

-- What is known of header h by where its link leads.
pub record LeadsTo (image h : List ℕ) (lbn : ℕ) : Type 0 where
  pub some : m_efnu h ≡ 0 → ⊥
  pub good : good_link image h ≡ true
  pub next : block image lbn ≡ header image (m_efnu h)

abbrev pub Leads : List ℕ → List ℕ → Link → Type 0
Leads image h End = m_efnu h ≡ 0
Leads image h (To lbn) = LeadsTo image h lbn.0
Leads image h Bad = good_link image h ≡ false

pub link-leads : (image h : List ℕ) (l : Link) → link_from image h ≡ l → Leads image h l
unfolding header
link-leads image h l e = subst (Leads image h) e (go (ℕ_discrete (m_efnu h) 0) (links_on image h) refl)
  where
    go : Dec (m_efnu h ≡ 0) → (t : Bool) → links_on image h ≡ t → Leads image h (link_from image h)
    go (yes z) t q = rw (link-is-end image h z) z
    go (no ne) true q =
        rw (link-is-to image h ne q (record { 0 = slot image (m_efnu h) }) refl) (record { some = ne; good = link-more image h ne ∙ q; next = refl })
    go (no ne) false q = rw (link-is-bad image h ne q) (link-more image h ne ∙ q)

-- The header that a good link leads to.
pub leads-next : (image h : List ℕ) (lbn : ℕ) → Bytes image → LeadsTo image h lbn → NextHeader image h (block image lbn)
leads-next image h lbn bytes l = record {
  some = l.some;
  good = l.good;
  is = l.next;
  higher = ap segment l.next ∙ (good-links image h l.some l.good).next;
  low = rw l.next (segment-most image (m_efnu h) bytes);
}
