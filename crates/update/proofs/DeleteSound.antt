-- What delete does keeps an image safe, and a sound one sound: a place after is a place before of a number outside the chain, no link leads into the
-- chain or out of it, and no block of the chain is covered by a number outside it.
use mathlib.Core.Path.{◌≡◌, refl, sym, ap, ◌∙◌}
use mathlib.Core.Bool.{true, true≢false}
use mathlib.Core.Logic.{◌⊎◌, inl, inr}
use mathlib.Core.List.{List, [], ◌∷◌, ◌++◌}
use Prim.Native.Nat.{ℕ, ◌≤◌, ◌<◌}
use native.Mathlib.Decide.{dec_lt}
use native.Mathlib.Omega.{arith}
use lib.ListN.{length, get_or}
use Rattle.image.specs.Words.{Bytes}
use Rattle.image.specs.Bits.{bit_at}
use Rattle.header.specs.Fields.{segment, m_efnu}
use Rattle.pointers.specs.Pointers.{blocks_of}
use Rattle.home.specs.Home.{blocks}
use Rattle.volume.specs.Volume.{header, fault_of, in_use, storage_map, map_bits}
use Rattle.chains.specs.Chains.{chain_of}
use Rattle.pointers.specs.Pointers.{flat}
use Rattle.lists.specs.Counts.{count, In}
use Rattle.lists.proofs.CountLaws.{count_none, count-append, count_at, count-find}
use Rattle.slots.proofs.SlotLaws.{used-range}
use Rattle.sound.specs.Sound.{GoodLink, OneLink, Covers, Mapped, Safe, Sound}
use Rattle.sound.specs.Claims.{IsFile}
use Rattle.sound.proofs.MapLaws.{bits-enough}
use Rattle.sound.proofs.CoverLaws.{covers_below}
use Rattle.sound.proofs.MemberLaws.{in-cases, flat-at}
use Rattle.sound.proofs.ChainLaws.{chain_next, member-used, only-head, back}
use Rattle.sound.proofs.BlockLaws.{Lies}
use Rattle.update.proofs.Effects.{Deleted}
use Rattle.update.proofs.SameLaws.{Alike, alike, fault-same, covers-same, known_same, link-same}

-- A number stands in a list, or not.
in-or-not : (k : ℕ) (l : List ℕ) → In k l ⊎ (count k l ≡ 0)
in-or-not k l = elim (dec_lt 0 (count k l)) [ yes p ↦ inl p | no p ↦ inr (omega arith) ]

-- What the header of a member covers is a block of the chain.
flat_has : (hdr : ℕ → List ℕ) (l : List ℕ) (k p : ℕ) → In k l → p < length (blocks_of (hdr k)) → In (get_or (blocks_of (hdr k)) p 0) (flat hdr l)
unfolding flat
flat_has hdr [] k p m h = absurd (omega (arith, count_none k))
flat_has hdr (x ∷ l) k p m h = go (flat_has hdr l k p) (in-cases k x l m)
  where
    j : ℕ
    j = get_or (blocks_of (hdr k)) p 0

    go : (In k l → p < length (blocks_of (hdr k)) → In j (flat hdr l)) → (k ≡ x) ⊎ In k l → In j (blocks_of (hdr x) ++ flat hdr l)
    go rest (inl e) = omega (arith, count-append j (blocks_of (hdr x)) (flat hdr l), count_at (blocks_of (hdr k)) p h, ap (λ (y : ℕ). count j (blocks_of (hdr y))) e)
    go rest (inr r) = omega (arith, count-append j (blocks_of (hdr x)) (flat hdr l), rest r h)

module _ (image image' : List ℕ) (n : ℕ) (bytes : Bytes image) (s : Safe image) (file : IsFile image n) (low : 6 ≤ n) (d : Deleted image image' (chain_of image n)) where
  abbrev Used : ℕ → Type 0
  Used k = in_use image k ≡ true

  abbrev Used' : ℕ → Type 0
  Used' k = in_use image' k ≡ true

  abbrev members : List ℕ
  members = chain_of image n

  abbrev own : List ℕ
  own = flat (header image) members

  -- A number in use after was in use before and is no member; such a one stays in use, with its header.
  abbrev Outside : ℕ → Type 0
  Outside k = Used k × (count k members ≡ 0)

  was : (k : ℕ) → Used' k → Outside k
  was k u = go (in-or-not k members)
    where
      go : In k members ⊎ (count k members ≡ 0) → Outside k
      go (inl m) = absurd (true≢false (sym u ∙ d.gone k m))
      go (inr z) = (sym (d.used k z) ∙ u, z)

  stays : (k : ℕ) → Outside k → Used' k
  stays k o = d.used k o.1 ∙ o.0

  kept : (k : ℕ) → Outside k → header image' k ≡ header image k
  kept k o = d.headers k o.0 o.1

  same : (k : ℕ) → Outside k → Alike image image' k
  same k o = alike image image' k (kept k o)

  whole : (k : ℕ) → Outside k → fault_of image' k ≡ 0
  whole k o = fault-same image image' k d.fixed.blocks (kept k o) ∙ s.whole k o.0

  -- No known file is a member.
  known-outside : (k : ℕ) → 1 ≤ k → k ≤ 5 → Outside k
  known-outside k a b = go (in-or-not k members)
    where
      go : In k members ⊎ (count k members ≡ 0) → Outside k
      go (inl m) = absurd (omega (arith, only-head image s n file k (s.known k a b).first m))
      go (inr z) = ((s.known k a b).used, z)

  -- What a member links to is a member, and what links to a member is one.
  next-member : (k : ℕ) → In k members → (m_efnu (header image k) ≡ 0 → ⊥) → In (m_efnu (header image k)) members
  unfolding chain_of
  next-member k m ne = chain_next image s bytes 256 n k file.used (omega arith) m ne

  link-outside : (k : ℕ) → Outside k → (m_efnu (header image k) ≡ 0 → ⊥) → Outside (m_efnu (header image k))
  link-outside k o ne = go (in-or-not (m_efnu (header image k)) members)
    where
      go : In (m_efnu (header image k)) members ⊎ (count (m_efnu (header image k)) members ≡ 0) → Outside (m_efnu (header image k))
      go (inl m) = absurd (omega (arith, o.1, back image s n file k (m_efnu (header image k)) o.0 refl m))
      go (inr z) = ((s.link k o.0 ne).used, z)

  from-outside : (k t : ℕ) → Used k → m_efnu (header image k) ≡ t → Outside t → Outside k
  from-outside k t u e o = go (in-or-not k members)
    where
      go : In k members ⊎ (count k members ≡ 0) → Outside k
      go (inl m) =
          let r : In t members = rw e at (next-member k m (λ z. omega (arith, used-range image t o.0))) in
          absurd (omega (arith, o.1))
      go (inr z) = (u, z)

  link : (k : ℕ) → Outside k → (m_efnu (header image' k) ≡ 0 → ⊥) → GoodLink image' k
  link k o ne =
      let a = same k o in
      let ne' : m_efnu (header image k) ≡ 0 → ⊥ = λ z. ne (a.efnu ∙ z) in
      let t = m_efnu (header image k) in
      let to = link-outside k o ne' in
      link-same image image' k d.fixed.slots a (same t to) (stays t to) (whole t to) (s.link k o.0 ne')

  later : (t : ℕ) → Outside t → (segment (header image' t) ≡ 0 → ⊥) → OneLink image' t
  later t o ne =
      let l = s.later t o.0 (λ z. ne ((same t o).seg ∙ z)) in
      let f = from-outside l.from t l.used l.links o in
      record {
        from = l.from;
        used = stays l.from f;
        links = (same l.from f).efnu ∙ l.links;
        only = λ k v e. l.only k (was k v).0 (sym (same k (was k v)).efnu ∙ e);
      }

  -- Places of numbers outside the chain are what they were.
  covers-was : (k p j : ℕ) → Covers image' k p j → Covers image k p j
  covers-was k p j v = covers-same image' image k p j (was k v.used).0 (sym (kept k (was k v.used))) v

  -- A block of the chain is covered by a member, so by no number outside the chain.
  own-lies : (j : ℕ) → In j own → Lies image members j
  own-lies j m =
      let f = count-find j own m in
      let a = flat-at (header image) members f.at f.inside in
      record {
        number = a.number;
        member = a.member;
        place = a.place;
        covers = record { used = member-used image s n file a.number a.member; inside = a.inside; here = a.here ∙ f.here };
      }

  own-freed : (j : ℕ) → In j own → Mapped image' j → ⊥
  own-freed j m v =
      let r = own-lies j m in
      let o = was v.number v.covers.used in
      let e : r.number ≡ v.number = (s.once r.number r.place v.number v.place j r.covers (covers-was v.number v.place j v.covers)).0 in
      omega (arith, o.1, rw e at r.member)

  -- A block that is none of the chain's is mapped after if it was before.
  mapped-stays : (j : ℕ) → count j own ≡ 0 → Mapped image j → Mapped image' j
  mapped-stays j z v = go (in-or-not v.number members)
    where
      k : ℕ
      k = v.number

      go : In k members ⊎ (count k members ≡ 0) → Mapped image' j
      go (inl m) =
          let r : In j own = rw v.covers.here at (flat_has (header image) members k v.place m v.covers.inside) in
          absurd (omega arith)
      go (inr y) =
          let o : Outside k = (v.covers.used, y) in
          record { number = k; place = v.place; covers = covers-same image image' k v.place j (stays k o) (kept k o) v.covers }

  mapped-was : (j : ℕ) → Mapped image' j → Mapped image j
  mapped-was j v = record { number = v.number; place = v.place; covers = covers-was v.number v.place j v.covers }

  delete-keeps : Safe image'
  delete-keeps = record {
    known = λ k a b. let o = known-outside k a b in known_same image image' k (stays k o) (same k o) (s.known k a b);
    slotted = λ k u. rw d.fixed.slots (s.slotted k (was k u).0);
    whole = λ k u. whole k (was k u);
    link = λ k u ne. link k (was k u) ne;
    first = λ t u z k v e. s.first t (was t u).0 (sym (same t (was t u)).seg ∙ z) k (was k v).0 (sym (same k (was k v)).efnu ∙ e);
    later = λ t u ne. later t (was t u) ne;
    once = λ k p m q j v w. s.once k p m q j (covers-was k p j v) (covers-was m q j w);
    passed = d.fixed.passed;
  }

  -- The storage map, of a sound image.
  module _ (sound : Sound image) where
    unmapped : (j : ℕ) → j < blocks image → (Mapped image' j → ⊥) → In j own ⊎ (count j own ≡ 0) → bit_at (storage_map image') j ≡ 1
    unmapped j h free (inl m) = d.now j m
    unmapped j h free (inr z) = d.rest j (omega (arith, bits-enough image)) z ∙ sound.unmapped j h (λ m. free (mapped-stays j z m))

    mapped : (j : ℕ) → j < blocks image → Mapped image' j → In j own ⊎ (count j own ≡ 0) → bit_at (storage_map image') j ≡ 0
    mapped j h v (inl m) = absurd (own-freed j m v)
    mapped j h v (inr z) = d.rest j (omega (arith, bits-enough image)) z ∙ sound.mapped j h (mapped-was j v)

    beyond : (j : ℕ) → blocks image ≤ j → j < map_bits (blocks image) → In j own ⊎ (count j own ≡ 0) → bit_at (storage_map image') j ≡ 0
    beyond j h b (inl m) =
        let r = own-lies j m in
        absurd (omega (arith, covers_below image s.whole r.number r.place j r.covers))
    beyond j h b (inr z) = d.rest j b z ∙ sound.beyond j h b

    map-keeps : Sound image'
    map-keeps = record {
      safe = delete-keeps;
      unmapped = λ j h free. unmapped j (rw d.fixed.blocks at h) free (in-or-not j own);
      mapped = λ j h v. mapped j (rw d.fixed.blocks at h) v (in-or-not j own);
      beyond = λ j h b. beyond j (rw d.fixed.blocks at h) (rw d.fixed.blocks at b) (in-or-not j own);
    }

pub delete-safe : (image image' : List ℕ) (n : ℕ) → Bytes image → Safe image → IsFile image n → 6 ≤ n → Deleted image image' (chain_of image n) → Safe image'
delete-safe = delete-keeps

pub delete-sound : (image image' : List ℕ) (n : ℕ) → Bytes image → Sound image → IsFile image n → 6 ≤ n → Deleted image image' (chain_of image n) → Sound image'
delete-sound image image' n bytes s file low d = map-keeps image image' n bytes s.safe file low d s
