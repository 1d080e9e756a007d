-- What extend does keeps an image safe where no place before is one of the new run: a place after was a place before or is one of the run, and the fields
-- that links are judged by are the same in every header. It keeps a sound one sound, for there the run was free and so no place before.
use mathlib.Core.Path.{◌≡◌, refl, sym, ◌∙◌}
use mathlib.Core.Bool.{true}
use mathlib.Core.Logic.{◌⊎◌, inl, inr}
use mathlib.Core.List.{List, ◌++◌}
use Prim.Native.Nat.{ℕ, ◌+◌, ◌-◌, ◌≤◌, ◌<◌}
use native.Mathlib.Decide.{ℕ_discrete, dec_lt}
use native.Mathlib.Omega.{arith}
use lib.ListN.{length, get_or, length-append, get_or-append}
use lib.Seq.{get_or-append-add}
use Rattle.image.specs.Bits.{bit_at}
use Rattle.lists.specs.Lists.{numbers_from}
use Rattle.lists.proofs.NumbersLaws.{numbers_from-length, numbers_from-at}
use Rattle.header.specs.Fields.{segment, m_efnu}
use Rattle.pointers.specs.Pointers.{blocks_of}
use Rattle.home.specs.Home.{blocks}
use Rattle.volume.specs.Volume.{header, fault_of, in_use, storage_map}
use Rattle.sound.specs.Sound.{GoodLink, OneLink, Covers, Mapped, Safe, Sound}
use Rattle.sound.proofs.MapLaws.{bits-enough}
use Rattle.update.proofs.Effects.{Extended}
use Rattle.update.proofs.SameLaws.{Alike, alike, fault-same, covers-same, known_same, link-same}

-- No block of the c from LBN s on is mapped.
abbrev pub Unmapped : List ℕ → ℕ → ℕ → Type 0
Unmapped image s c = (j : ℕ) → s ≤ j → j < s + c → Mapped image j → ⊥

module _ (image image' : List ℕ) (n s c : ℕ) (safe : Safe image) (run-free : Unmapped image s c) (x : Extended image image' n s c) where
  abbrev Used : ℕ → Type 0
  Used k = in_use image k ≡ true

  abbrev Used' : ℕ → Type 0
  Used' k = in_use image' k ≡ true

  stays : (k : ℕ) → Used k → Used' k
  stays k u = x.used k ∙ u

  was : (k : ℕ) → Used' k → Used k
  was k u = sym (x.used k) ∙ u

  -- By cases: the header of n, or another.
  by : (P : ℕ → Type 0) → (k : ℕ) → P n → ((k ≡ n → ⊥) → P k) → P k
  by P k here other = go (ℕ_discrete k n)
    where
      go : Dec (k ≡ n) → P k
      go (yes e) = rw e here
      go (no ne) = other ne

  same : (k : ℕ) → Used k → Alike image image' k
  same k u =
      by (Alike image image') k (record { efnu = x.efnu; efsq = x.efsq; fseq = x.fseq; seg = x.seg })
      (λ ne. alike image image' k (x.headers k u ne))

  whole : (k : ℕ) → Used k → fault_of image' k ≡ 0
  whole k u =
      by (λ (m : ℕ). fault_of image' m ≡ 0) k x.whole
      (λ ne. fault-same image image' k x.fixed.blocks (x.headers k u ne) ∙ safe.whole k u)

  -- The blocks that the header of n covered, and the new run.
  abbrev old : List ℕ
  old = blocks_of (header image n)

  abbrev run : List ℕ
  run = numbers_from s c

  -- Place p of number k is that of LBN j of the new run.
  record New (k p j : ℕ) : Type 0 where
    number : k ≡ n
    low : s ≤ j
    high : j < s + c
    place : p + s ≡ length old + j

  run_at : (i : ℕ) → i < c → get_or (old ++ run) (length old + i) 0 ≡ s + i
  run_at i h = get_or-append-add old run i 0 ∙ numbers_from-at s c i h

  own-was : (p j : ℕ) → Covers image' n p j → Covers image n p j ⊎ New n p j
  own-was p j v = go (dec_lt p (length old))
    where
      inside : p < length (old ++ run)
      inside = rw x.more at v.inside

      here : get_or (old ++ run) p 0 ≡ j
      here = rw x.more at v.here

      go : Dec (p < length old) → Covers image n p j ⊎ New n p j
      go (yes l) = inl (record { used = x.old; inside = l; here = sym (get_or-append old run 0 p l) ∙ here })
      go (no l) =
          let i = p - length old in
          let e : length old + i ≡ p = omega arith in
          let h : i < c = omega (arith, inside, length-append old run, numbers_from-length s c) in
          let r : get_or (old ++ run) p 0 ≡ s + i = rw e at (run_at i h) in
          let q : j ≡ s + i = sym here ∙ r in
          inr (record { number = refl; low = omega arith; high = omega arith; place = omega arith })

  covers-was : (k p j : ℕ) → Covers image' k p j → Covers image k p j ⊎ New k p j
  covers-was k p j v =
      by (λ (m : ℕ). Covers image' m p j → Covers image m p j ⊎ New m p j) k (own-was p j)
      (λ ne w. inl (covers-same image' image k p j (was k w.used) (sym (x.headers k (was k w.used) ne)) w)) v

  own-stays : (p j : ℕ) → Covers image n p j → Covers image' n p j
  own-stays p j v = record {
    used = stays n v.used;
    inside = rw x.more (omega (arith, v.inside, length-append old run));
    here = rw x.more (get_or-append old run 0 p v.inside ∙ v.here);
  }

  covers-stays : (k p j : ℕ) → Covers image k p j → Covers image' k p j
  covers-stays k p j v =
      by (λ (m : ℕ). Covers image m p j → Covers image' m p j) k (own-stays p j)
      (λ ne w. covers-same image image' k p j (stays k w.used) (x.headers k w.used ne) w) v

  mapped-stays : (j : ℕ) → Mapped image j → Mapped image' j
  mapped-stays j m = record { number = m.number; place = m.place; covers = covers-stays m.number m.place j m.covers }

  -- The new run is mapped after.
  run-mapped : (j : ℕ) → s ≤ j → j < s + c → Mapped image' j
  run-mapped j a b =
      let i = j - s in
      let h : i < c = omega arith in
      let e : s + i ≡ j = omega arith in
      record {
        number = n;
        place = length old + i;
        covers = record {
          used = stays n x.old;
          inside = rw x.more (omega (arith, length-append old run, numbers_from-length s c));
          here = rw x.more (run_at i h ∙ e);
        };
      }

  new-free : (k p m q j : ℕ) → Covers image k p j → New m q j → ⊥
  new-free k p m q j v w = run-free j w.low w.high (record { number = k; place = p; covers = v })

  once : (k p m q j : ℕ) → Covers image k p j ⊎ New k p j → Covers image m q j ⊎ New m q j → (k ≡ m) × (p ≡ q)
  once k p m q j (inl v) (inl w) = safe.once k p m q j v w
  once k p m q j (inl v) (inr w) = absurd (new-free k p m q j v w)
  once k p m q j (inr v) (inl w) = absurd (new-free m q k p j w v)
  once k p m q j (inr v) (inr w) = (v.number ∙ sym w.number, omega (arith, v.place, w.place))

  link : (k : ℕ) → Used k → (m_efnu (header image' k) ≡ 0 → ⊥) → GoodLink image' k
  link k u ne =
      let a = same k u in
      let g = safe.link k u (λ z. ne (a.efnu ∙ z)) in
      let t = m_efnu (header image k) in
      link-same image image' k x.fixed.slots a (same t g.used) (stays t g.used) (whole t g.used) g

  later : (t : ℕ) → Used t → (segment (header image' t) ≡ 0 → ⊥) → OneLink image' t
  later t u ne =
      let l = safe.later t u (λ z. ne ((same t u).seg ∙ z)) in
      record {
        from = l.from;
        used = stays l.from l.used;
        links = (same l.from l.used).efnu ∙ l.links;
        only = λ k v e. l.only k (was k v) (sym (same k (was k v)).efnu ∙ e);
      }

  -- Each bit by cases: in the new run, or not.
  in-run : (j : ℕ) → ((s ≤ j) × (j < s + c)) ⊎ (s ≤ j → j < s + c → ⊥)
  in-run j = go (dec_lt j s) (dec_lt j (s + c))
    where
      go : Dec (j < s) → Dec (j < s + c) → ((s ≤ j) × (j < s + c)) ⊎ (s ≤ j → j < s + c → ⊥)
      go (yes a) d = inr (λ p q. omega arith)
      go (no a) (yes b) = inl (omega arith, b)
      go (no a) (no b) = inr (λ p q. b q)

  unmapped : Sound image → (j : ℕ) → j < blocks image → (Mapped image' j → ⊥) → bit_at (storage_map image') j ≡ 1
  unmapped sound j h free = go (in-run j)
    where
      go : ((s ≤ j) × (j < s + c)) ⊎ (s ≤ j → j < s + c → ⊥) → bit_at (storage_map image') j ≡ 1
      go (inl p) = absurd (free (run-mapped j p.0 p.1))
      go (inr p) = x.rest j (omega (arith, bits-enough image)) p ∙ sound.unmapped j h (λ m. free (mapped-stays j m))

  mapped : Sound image → (j : ℕ) → j < blocks image → Mapped image' j → bit_at (storage_map image') j ≡ 0
  mapped sound j h m = go (in-run j) (covers-was m.number m.place j m.covers)
    where
      go : ((s ≤ j) × (j < s + c)) ⊎ (s ≤ j → j < s + c → ⊥) → Covers image m.number m.place j ⊎ New m.number m.place j
          → bit_at (storage_map image') j ≡ 0
      go (inl p) v = x.now j p.0 p.1
      go (inr p) (inl v) =
          x.rest j (omega (arith, bits-enough image)) p ∙ sound.mapped j h (record { number = m.number; place = m.place; covers = v })
      go (inr p) (inr v) = absurd (p v.low v.high)

  extend-keeps : Safe image'
  extend-keeps = record {
    known = λ k a b. let q = safe.known k a b in known_same image image' k (stays k q.used) (same k q.used) q;
    slotted = λ k u. rw x.fixed.slots (safe.slotted k (was k u));
    whole = λ k u. whole k (was k u);
    link = λ k u ne. link k (was k u) ne;
    first = λ t u z k v e. safe.first t (was t u) (sym (same t (was t u)).seg ∙ z) k (was k v) (sym (same k (was k v)).efnu ∙ e);
    later = λ t u ne. later t (was t u) ne;
    once = λ k p m q j v w. once k p m q j (covers-was k p j v) (covers-was m q j w);
    passed = x.fixed.passed;
  }

  map-keeps : Sound image → Sound image'
  map-keeps sound = record {
    safe = extend-keeps;
    unmapped = λ j h free. unmapped sound j (rw x.fixed.blocks at h) free;
    mapped = λ j h m. mapped sound j (rw x.fixed.blocks at h) m;
    beyond = λ j h b.
        let l : blocks image ≤ j = rw x.fixed.blocks at h in
        x.rest j (rw x.fixed.blocks at b) (λ p q. omega (arith, x.fits)) ∙ sound.beyond j l (rw x.fixed.blocks at b);
  }

pub extend-safe : (image image' : List ℕ) (n s c : ℕ) → Safe image → Unmapped image s c → Extended image image' n s c → Safe image'
extend-safe = extend-keeps

pub extend-sound : (image image' : List ℕ) (n s c : ℕ) → Sound image → Extended image image' n s c → Sound image'
extend-sound image image' n s c sound x = map-keeps image image' n s c sound.safe run-free x sound
  where
    run-free : Unmapped image s c
    run-free j a b m = omega (arith, sound.mapped j (omega (arith, x.fits)) m, x.was j a b)
