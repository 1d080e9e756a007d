-- What create does keeps an image safe, and a sound one sound: its header covers nothing, so every place after was a place before, and nothing links
-- to a number that was not in use.
use mathlib.Core.Path.{◌≡◌, refl, sym, ap, ◌∙◌}
use mathlib.Core.Bool.{true, true≢false}
use mathlib.Core.Logic.{◌⊎◌, inl, inr}
use mathlib.Core.List.{List}
use Prim.Native.Nat.{ℕ, ◌≤◌, ◌<◌}
use native.Mathlib.Decide.{ℕ_discrete}
use native.Mathlib.Omega.{arith}
use Rattle.image.specs.Bits.{bit_at}
use Rattle.header.specs.Fields.{segment, m_efnu}
use Rattle.home.specs.Home.{blocks}
use Rattle.volume.specs.Volume.{slots, header, fault_of, in_use, storage_map}
use Rattle.slots.proofs.SlotLaws.{used-range}
use Rattle.sound.specs.Sound.{GoodLink, OneLink, Covers, Mapped, Safe, Sound}
use Rattle.sound.proofs.MapLaws.{bits-enough}
use Rattle.update.proofs.Effects.{Created}
use Rattle.update.proofs.SameLaws.{Alike, alike, fault-same, covers-same, known_same, link-same}

module _ (image image' : List ℕ) (n : ℕ) (s : Safe image) (c : Created image image' n) where
  abbrev Used : ℕ → Type 0
  Used k = in_use image k ≡ true

  abbrev Used' : ℕ → Type 0
  Used' k = in_use image' k ≡ true

  -- A number in use before is not the new one, and stays in use; one in use after is the new one or was in use.
  other : (k : ℕ) → Used k → k ≡ n → ⊥
  other k u e = true≢false (sym u ∙ ap (in_use image) e ∙ c.was)

  stays : (k : ℕ) → Used k → Used' k
  stays k u = c.others k (other k u) ∙ u

  was : (k : ℕ) → Used' k → (k ≡ n) ⊎ Used k
  was k u = elim (ℕ_discrete k n) [ yes e ↦ inl e | no ne ↦ inr (sym (c.others k ne) ∙ u) ]

  same : (k : ℕ) → Used k → Alike image image' k
  same k u = alike image image' k (c.headers k u)

  -- By cases: the new number, or one that was in use.
  by : (P : ℕ → Type 0) → (k : ℕ) → Used' k → P n → (Used k → P k) → P k
  by P k u new old = go (was k u)
    where
      go : (k ≡ n) ⊎ Used k → P k
      go (inl e) = rw e new
      go (inr o) = old o

  whole : (k : ℕ) → Used k → fault_of image' k ≡ 0
  whole k u = fault-same image image' k c.fixed.blocks (c.headers k u) ∙ s.whole k u

  -- The new number covers nothing; the places of the others are what they were.
  covers-none : (p j : ℕ) → Covers image' n p j → ⊥
  covers-none p j v = omega (arith, rw c.empty at v.inside)

  covers-was : (k p j : ℕ) → Covers image' k p j → Covers image k p j
  covers-was k p j v =
      by (λ (m : ℕ). Covers image' m p j → Covers image m p j) k v.used (λ w. absurd (covers-none p j w))
      (λ o w. covers-same image' image k p j o (sym (c.headers k o)) w) v

  mapped-was : (j : ℕ) → Mapped image' j → Mapped image j
  mapped-was j m = record { number = m.number; place = m.place; covers = covers-was m.number m.place j m.covers }

  mapped-stays : (j : ℕ) → Mapped image j → Mapped image' j
  mapped-stays j m =
      let v = m.covers in
      record { number = m.number; place = m.place; covers = covers-same image image' m.number m.place j (stays m.number v.used) (c.headers m.number v.used) v }

  -- Nothing links to the new number, and it links to no number in use.
  unlinked : (k : ℕ) → Used k → m_efnu (header image k) ≡ n → ⊥
  unlinked k u e = other n (rw e at (s.link k u (λ z. omega (arith, c.low))).used) refl

  links-none : (k : ℕ) → Used' k → m_efnu (header image' n) ≡ k → ⊥
  links-none k u e = omega (arith, c.unlinked, used-range image' k u)

  link : (k : ℕ) → Used k → (m_efnu (header image' k) ≡ 0 → ⊥) → GoodLink image' k
  link k u ne =
      let a = same k u in
      let g = s.link k u (λ z. ne (a.efnu ∙ z)) in
      let t = m_efnu (header image k) in
      link-same image image' k c.fixed.slots a (same t g.used) (stays t g.used) (whole t g.used) g

  first : (t : ℕ) → Used' t → segment (header image' t) ≡ 0 → (k : ℕ) → Used k → m_efnu (header image k) ≡ t → ⊥
  first t u z k o e =
      by (λ (x : ℕ). segment (header image' x) ≡ 0 → m_efnu (header image k) ≡ x → ⊥) t u (λ z e. unlinked k o e)
      (λ w z e. s.first t w (sym (same t w).seg ∙ z) k o e) z e

  later : (t : ℕ) → Used t → Used' t → (segment (header image' t) ≡ 0 → ⊥) → OneLink image' t
  later t o u ne =
      let l = s.later t o (λ z. ne ((same t o).seg ∙ z)) in
      record {
        from = l.from;
        used = stays l.from l.used;
        links = (same l.from l.used).efnu ∙ l.links;
        only = λ k v e.
            by (λ (x : ℕ). m_efnu (header image' x) ≡ t → x ≡ l.from) k v (λ e. absurd (links-none t u e))
            (λ w e. l.only k w (sym (same k w).efnu ∙ e)) e;
      }

  bit : (j : ℕ) → j < blocks image → bit_at (storage_map image') j ≡ bit_at (storage_map image) j
  bit j h = c.bits j (omega (arith, bits-enough image))

  create-keeps : Safe image'
  create-keeps = record {
    known = λ k a b. let q = s.known k a b in known_same image image' k (stays k q.used) (same k q.used) q;
    slotted = λ k u. rw c.fixed.slots (by (λ (x : ℕ). x ≤ slots image) k u c.has (s.slotted k));
    whole = λ k u. by (λ (x : ℕ). fault_of image' x ≡ 0) k u c.whole (whole k);
    link = λ k u ne.
        by (λ (x : ℕ). (m_efnu (header image' x) ≡ 0 → ⊥) → GoodLink image' x) k u (λ z. absurd (z c.unlinked)) (link k) ne;
    first = λ t u z k v e.
        by (λ (x : ℕ). m_efnu (header image' x) ≡ t → ⊥) k v (links-none t u) (λ o e. first t u z k o (sym (same k o).efnu ∙ e)) e;
    later = λ t u ne.
        by (λ (x : ℕ). (segment (header image' x) ≡ 0 → ⊥) → OneLink image' x) t u (λ z. absurd (z c.first)) (λ o z. later t o u z) ne;
    once = λ k p m q j v w. s.once k p m q j (covers-was k p j v) (covers-was m q j w);
    passed = c.fixed.passed;
  }

  map-keeps : Sound image → Sound image'
  map-keeps m = record {
    safe = create-keeps;
    unmapped = λ j h free. let l : j < blocks image = rw c.fixed.blocks at h in bit j l ∙ m.unmapped j l (λ v. free (mapped-stays j v));
    mapped = λ j h v. let l : j < blocks image = rw c.fixed.blocks at h in bit j l ∙ m.mapped j l (mapped-was j v);
    beyond = λ j h b. c.bits j (rw c.fixed.blocks at b) ∙ m.beyond j (rw c.fixed.blocks at h) (rw c.fixed.blocks at b);
  }

pub create-safe : (image image' : List ℕ) (n : ℕ) → Safe image → Created image image' n → Safe image'
create-safe = create-keeps

pub create-sound : (image image' : List ℕ) (n : ℕ) → Sound image → Created image image' n → Sound image'
create-sound image image' n s c = map-keeps image image' n s.safe c s
