-- Laws of LINKS: the marks, what it says of a number by its tests one after the other, and what a volume has that passes it.
use Rattle.std.specs.Prelude.{Ok, Err}
use mathlib.Core.Path.{◌≡◌, refl, sym, ap, ◌∙◌}
use mathlib.Core.Bool.{Bool, true, false, not, ◌&&◌, false≢true, and-false, and-true, cond, and-eq-true_iff}
use mathlib.Core.List.{List, [], ◌∷◌, ◌++◌}
use Prim.Native.Nat.{ℕ, ◌+◌, ◌-◌, ◌≤◌, ◌<◌}
use native.Mathlib.Decide.{ℕ_discrete, dec_le}
use native.Mathlib.Omega.{arith}
use borrow.Author.Tests.{not-false, eq-eqb, ne_eqb, le-leb, lt-leb}
use lib.Dec.{eqb, leb}
use Rattle.answer.specs.declared.refusal.Refusal.TheVariants as refusal
use Rattle.image.specs.Blocks.{block}
use Rattle.header.specs.Fields.{h_fseq, segment, m_efnu, m_efsq}
use Rattle.volume.specs.Volume.{follows, fmax, header, fault_of, in_use, has_slot, is_number}
use Rattle.chains.specs.Chains.{good_link}
use Rattle.chains.proofs.LinkLaws.{link-more, links-number, links-none}
use Rattle.lists.specs.Counts.{count}
use Rattle.marks.specs.Marks.{table, capped, tallied, cleared, raised}
use Rattle.marks.proofs.MarkLaws.{cleared-tallied, tallied-drop, tallied-raised, tallied-other}
use Rattle.slots.specs.declared.SlotRun.{SlotRun}
use Rattle.slots.specs.Slots.{Stands, gathered}
use Rattle.slots.proofs.SlotLaws.{stands_read, used-range, gathered_none, gathered-used, gathered-unused}
use Rattle.links.specs.Links.{link_of, linked, raised_link, links_wanted, bad_links, links_place, links}
use Rattle.files.proofs.SearchLaws.{search-passed, search-all, search-none, search-refused}
use Rattle.files.proofs.FileLaws.{FilesPassed}

-- Marks that are made anew.
pub tallied-again : (l l' : List ℕ) (s k : ℕ) (area : List ℕ) → tallied l s k (tallied l' s k area) ≡ tallied l s k area
unfolding tallied
tallied-again l l' s k area = ap (λ (r : List ℕ). table (capped l) s k ++ r) (tallied-drop l' s k area)

pub tallied-still : (l : List ℕ) (s k : ℕ) (area new : List ℕ) → new ≡ tallied l s k area → new ≡ tallied l s k new
tallied-still l s k area new e = e ∙ sym (tallied-again l l s k area) ∙ ap (tallied l s k) (sym e)

pub cleared-is : (s k m : ℕ) (area : List ℕ) → m ≡ k → cleared area m ≡ tallied [] s k area
cleared-is s k m area e = ap (cleared area) e ∙ cleared-tallied s k area

-- The mark of a number that is named once more. 0 names none.
module _ (l : List ℕ) (k : ℕ) (area : List ℕ) where
  pub raised-link : (t : ℕ) → raised_link (tallied l 1 k area) k t ≡ tallied (l ++ t ∷ []) 1 k area
  unfolding raised_link
  raised-link t = go (dec_le 1 t) (dec_le t k)
    where
      go : Dec (1 ≤ t) → Dec (t ≤ k) → cond (leb 1 t && leb t k) (raised (tallied l 1 k area) (t - 1)) (tallied l 1 k area) ≡ tallied (l ++ t ∷ []) 1 k area
      go (yes a) (yes b) = rw (le-leb 1 t a, le-leb t k b) (tallied-raised l 1 k area t a (omega arith))
      go (yes a) (no b) = rw (le-leb 1 t a, lt-leb t k (omega arith)) (tallied-other l 1 k area t (omega arith))
      go (no a) b = rw (lt-leb 1 t (omega arith)) (tallied-other l 1 k area t (omega arith))

pub raised-low : (area : List ℕ) (k t : ℕ) → t < 1 → raised_link area k t ≡ area
unfolding raised_link
raised-low area k t h = rw (lt-leb 1 t h)

-- The marks before the first number, and one number more.
module _ (image : List ℕ) (k : ℕ) (area : List ℕ) where
  pub marks-none : tallied [] 1 k area ≡ tallied (gathered image link_of 0) 1 k area
  marks-none = rw gathered_none

  pub marks-next : FilesPassed image → (n t : ℕ) (run : SlotRun) (used : Bool) → 1 ≤ n → Stands image n run → used ≡ in_use image n
      → t ≡ cond used (m_efnu (block image run.lbn.0)) 0 → raised_link (tallied (gathered image link_of (n - 1)) 1 k area) k t ≡ tallied (gathered image link_of n) 1 k area
  unfolding link_of
  marks-next f n t run true l s u e =
      let m : n ≡ n - 1 + 1 = omega arith in
      let g : gathered image link_of n ≡ gathered image link_of (n - 1) ++ m_efnu (header image n) ∷ [] =
      rw (← m) at (gathered-used image link_of (n - 1) (rw (← m) (sym u))) in
      let q : t ≡ m_efnu (header image n) = e ∙ ap m_efnu (stands_read image n run s (f.slotted n (sym u))) in
      rw (q, g) (raised-link (gathered image link_of (n - 1)) k area (m_efnu (header image n)))
  marks-next f n t run false l s u e =
      let m : n ≡ n - 1 + 1 = omega arith in
      let g : gathered image link_of n ≡ gathered image link_of (n - 1) = rw (← m) at (gathered-unused image link_of (n - 1) (rw (← m) (sym u))) in
      rw (e, g) (raised-low (tallied (gathered image link_of (n - 1)) 1 k area) k 0 (omega arith))

-- A number's tests.
module _ (image : List ℕ) (links : List ℕ) (n : ℕ) where
  pub link-unused : in_use image n ≡ false → bad_links image links n ≡ false
  unfolding bad_links
  link-unused u = rw u

  module _ (u : in_use image n ≡ true) where
    pub link-miscounted : (count n links ≡ links_wanted (header image n) → ⊥) → bad_links image links n ≡ true
    unfolding bad_links
    link-miscounted ne = rw (u, ne_eqb (count n links) (links_wanted (header image n)) ne, and-false)

    pub link-counted : count n links ≡ links_wanted (header image n) → bad_links image links n ≡ not (good_link image (header image n))
    unfolding bad_links
    link-counted e = rw (u, eq-eqb (count n links) (links_wanted (header image n)) e, and-true)

-- A mark tells none, one and more apart.
pub wanted-most : (h : List ℕ) → links_wanted h ≤ 1
unfolding links_wanted
wanted-most h = go (eqb (segment h) 0)
  where
    go : (b : Bool) → cond b 0 1 ≤ 1
    go true = omega arith
    go false = omega arith

pub capped_is : (l : List ℕ) (x w : ℕ) → w ≤ 1 → capped l x ≡ w → count x l ≡ w
unfolding capped
capped_is l x w h e = omega arith

pub is-capped : (l : List ℕ) (x w : ℕ) → w ≤ 1 → count x l ≡ w → capped l x ≡ w
unfolding capped
is-capped l x w h e = omega arith

-- The link of a header where FILES has passed: that the header it names is whole need not be asked.
pub good-number : (image h : List ℕ) → FilesPassed image → (m_efnu h ≡ 0 → ⊥) → is_number image (m_efnu h) ≡ true
    → good_link image h ≡ (eqb (h_fseq (header image (m_efnu h))) (m_efsq h) && eqb (segment (header image (m_efnu h))) (segment h + 1))
unfolding is_number fault_of follows
good-number image h f some number =
    let n = m_efnu h in
    rw (link-more image h some, links-number image h number, eq-eqb (fault_of image n) 0 (f.whole n ((and-eq-true_iff (in_use image n) (has_slot image n)).0 number).0))

pub good_none : (image h : List ℕ) → (m_efnu h ≡ 0 → ⊥) → is_number image (m_efnu h) ≡ false → good_link image h ≡ false
good_none image h some none = link-more image h some ∙ links-none image h none

-- What a volume has that passes LINKS.
pub record LinksPassed (image : List ℕ) : Type 0 where
  pub good : (n : ℕ) → in_use image n ≡ true → good_link image (header image n) ≡ true
  pub times : (n : ℕ) → in_use image n ≡ true → count n (linked image) ≡ links_wanted (header image n)

module _ (image : List ℕ) where
  pub links-passed : links image ≡ Ok tt → LinksPassed image
  unfolding links links_place
  links-passed e = record { good = λ n u. good n u (times n u); times = times }
    where
      none : (n : ℕ) → in_use image n ≡ true → bad_links image (linked image) n ≡ false
      none n u = let r = used-range image n u in search-passed (bad_links image (linked image)) 1 (fmax image) _ e n r.0 (omega (arith, r.1))

      times : (n : ℕ) → in_use image n ≡ true → count n (linked image) ≡ links_wanted (header image n)
      times n u = go (ℕ_discrete (count n (linked image)) (links_wanted (header image n)))
        where
          go : Dec (count n (linked image) ≡ links_wanted (header image n)) → count n (linked image) ≡ links_wanted (header image n)
          go (yes q) = q
          go (no q) = absurd (false≢true (sym (none n u) ∙ link-miscounted image (linked image) n u q))

      good : (n : ℕ) → in_use image n ≡ true → count n (linked image) ≡ links_wanted (header image n) → good_link image (header image n) ≡ true
      good n u q = not-false (good_link image (header image n)) (sym (link-counted image (linked image) n u q) ∙ none n u)

  pub links-all : LinksPassed image → links image ≡ Ok tt
  unfolding links links_place
  links-all p = search-all (bad_links image (linked image)) 1 (fmax image) _ (λ n l h. go n (in_use image n) refl)
    where
      go : (n : ℕ) (t : Bool) → in_use image n ≡ t → bad_links image (linked image) n ≡ false
      go n true u = rw (link-counted image (linked image) n u (p.times n u), p.good n u)
      go n false u = link-unused image (linked image) n u

  -- What LINKS comes to by the place that is found.
  pub links-good : links_place image ≡ fmax image + 1 → links image ≡ Ok tt
  unfolding links links_place
  links-good e = search-none (bad_links image (linked image)) 1 (fmax image) _ (omega (arith, e))

  pub links-refused : (n : ℕ) → links_place image ≡ n → n ≤ fmax image → links image ≡ Err (refusal.Links n)
  unfolding links links_place
  links-refused n e l = rw (← e) (search-refused (bad_links image (linked image)) 1 (fmax image) _ (omega (arith, e)))
