-- Laws of an extended header: it is whole, covers the new blocks after the old ones, and is else as it was.
use mathlib.Core.Path.{◌≡◌, refl, sym, ap, ap₂, ◌∙◌}
use mathlib.Core.List.{List, ◌++◌}
use Prim.Native.Nat.{ℕ, zero, suc, ◌+◌, ◌*◌, ◌-◌, ◌/◌, ◌%◌, ◌≤◌, ◌<◌}
use native.Mathlib.Decide.{ℕ_discrete}
use native.Mathlib.Omega.{arith}
use lib.ListN.{length, set, length-set}
use lib.Seq.{get_or-set_same, get_or-set_other}
use Rattle.image.specs.Words.{byte_at, word_at, Bytes}
use Rattle.image.specs.Sums.{checksum}
use Rattle.lists.specs.Lists.{numbers_from}
use Rattle.image.proofs.StoreLaws.{Outside, Agree, agree_trans, agree-weaken, word-agree, set-agree, set-bytes, put_word-agree, put_word-word, put_word-bytes}
use Rattle.header.specs.Fields.{h_idof, h_mpof, h_fnum, h_fseq, h_flev, user_flags, system_flags, map_area, segment, m_ervn, m_efnu, m_efsq, m_ctsz, m_lbsz, m_use, m_max}
use Rattle.pointers.specs.Pointers.{pointer_lbn, pointer_count, run, runs, pointers_at, pointers, blocks_of}
use Rattle.whole.specs.Whole.{fault}
use Rattle.pointers.proofs.PointerLaws.{runs-more}
use Rattle.whole.proofs.WholeLaws.{Whole, whole_is, whole-holds}
use Rattle.header_edit.specs.Extended.{put_pointer, next_pointer, put_use, extended_header}
use Rattle.fresh_header.proofs.SealedLaws.{sealed-agree, sealed-sum, sealed-bytes}

-- A whole header that covers the c blocks from LBN s on after those that the old one covered, and is else as the old one was.
pub record Extends (blocks n s c : ℕ) (old h : List ℕ) : Type 0 where
  pub long : length h ≡ 512
  pub bytes : Bytes h
  pub whole : fault blocks n h ≡ 0
  pub more : blocks_of h ≡ blocks_of old ++ numbers_from s c
  pub efnu : m_efnu h ≡ m_efnu old
  pub efsq : m_efsq h ≡ m_efsq old
  pub fseq : h_fseq h ≡ h_fseq old
  pub seg : segment h ≡ segment old
  pub user : user_flags h ≡ user_flags old
  pub system : system_flags h ≡ system_flags old
  pub attributes : (i : ℕ) → 14 ≤ i → i < 46 → byte_at h i ≡ byte_at old i

-- A pointer is its four bytes, and the blocks of pointers are theirs.
module _ {P : ℕ → Type 0} {b b' : List ℕ} (a : Agree P b b') where
  lbn-agree : (at : ℕ) → ((i : ℕ) → at ≤ i → i < at + 4 → P i) → pointer_lbn b' at ≡ pointer_lbn b at
  unfolding pointer_lbn
  lbn-agree at p =
      ap₂ (λ (x y : ℕ). 65536 * x + y) (a.same at (p at (omega arith) (omega arith)))
      (word-agree a (at + 2) (p (at + 2) (omega arith) (omega arith)) (p (at + 2 + 1) (omega arith) (omega arith)))

  count-agree : (at : ℕ) → ((i : ℕ) → at ≤ i → i < at + 4 → P i) → pointer_count b' at ≡ pointer_count b at
  unfolding pointer_count
  count-agree at p = ap (λ (x : ℕ). x + 1) (a.same (at + 1) (p (at + 1) (omega arith) (omega arith)))

  run_agree : (at : ℕ) → ((i : ℕ) → at ≤ i → i < at + 4 → P i) → run b' at ≡ run b at
  unfolding run
  run_agree at p = ap₂ numbers_from (lbn-agree at p) (count-agree at p)

  runs-agree : (at k : ℕ) → ((i : ℕ) → at ≤ i → i < at + 4 * k → P i) → runs b' at k ≡ runs b at k
  unfolding runs
  runs-agree at zero p = refl
  runs-agree at (suc k) p = ap₂ (λ (x y : List ℕ). x ++ y) (runs-agree at k (λ i l h. p i l (omega arith))) (run_agree (at + 4 * k) (λ i l h. p i (omega arith) (omega arith)))

-- A pointer that was stored.
module _ (b : List ℕ) (at s c : ℕ) where
  pub pointer-agree : Agree (Outside at 4) b (put_pointer b at s c)
  unfolding put_pointer
  pointer-agree =
      agree_trans (agree-weaken (λ j o p q. o (omega arith) (omega arith)) (set-agree b at _))
      (agree_trans (agree-weaken (λ j o p q. o (omega arith) (omega arith)) (set-agree _ (at + 1) _))
      (agree-weaken (λ j o p q. o (omega arith) (omega arith)) (put_word-agree _ (at + 2) _)))

  pointer-map : 2 ≤ at → map_area (put_pointer b at s c) ≡ map_area b
  unfolding map_area h_mpof
  pointer-map l = ap (λ (x : ℕ). 2 * x) (pointer-agree.same 1 (λ p q. omega arith))

  pointer-bytes : s < 16777216 → c ≤ 256 → Bytes b → Bytes (put_pointer b at s c)
  unfolding put_pointer
  pointer-bytes small few bytes = put_word-bytes _ _ (omega arith) (set-bytes _ _ (omega arith) (set-bytes _ _ (omega arith) bytes))

  pointer-lbn : at + 4 ≤ length b → pointer_lbn (put_pointer b at s c) at ≡ s
  unfolding pointer_lbn put_pointer
  pointer-lbn fits =
      let high = set b at (s / 65536) in
      let count = set high (at + 1) (c - 1) in
      omega (
        arith,
        put_word-word count (at + 2) (s % 65536) (simp length-set (omega arith)),
        (put_word-agree count (at + 2) (s % 65536)).same at (λ x y. omega arith)
            ∙ get_or-set_other high (at + 1) at (c - 1) 0 (λ e. omega arith) ∙ get_or-set_same b at (s / 65536) 0 (omega arith),
      )

  pointer-count : at + 4 ≤ length b → 1 ≤ c → pointer_count (put_pointer b at s c) at ≡ c
  unfolding pointer_count put_pointer
  pointer-count fits one =
      let high = set b at (s / 65536) in
      let count = set high (at + 1) (c - 1) in
      omega (
        arith,
        (put_word-agree count (at + 2) (s % 65536)).same (at + 1) (λ x y. omega arith)
            ∙ get_or-set_same high (at + 1) (c - 1) 0 (simp length-set (omega arith)),
      )

-- Where there is room, the next pointer lies before the checksum, and so does M.USE once it is stored.
module _ (h : List ℕ) (fits : h_mpof h + 5 + m_max h ≤ 255) (room : m_use h + 2 ≤ m_max h) where
  pub next-inside : next_pointer h + 4 ≤ 510
  unfolding next_pointer pointers_at map_area pointers
  next-inside = omega arith

  next_map : (s c : ℕ) → map_area (put_pointer h (next_pointer h) s c) ≡ map_area h
  unfolding next_pointer pointers_at
  next_map s c = pointer-map h (next_pointer h) s c (omega arith)

  pub use-inside : (s c : ℕ) → map_area (put_pointer h (next_pointer h) s c) + 8 < 510
  unfolding map_area
  use-inside s c = omega (arith, next_map s c)

module _ (blocks n s c : ℕ) (old : List ℕ) (long : length old ≡ 512) (bytes : Bytes old) (w : Whole blocks n old) (room : m_use old + 2 ≤ m_max old) (one : 1 ≤ c)
    (few : c ≤ 256) (inside : s + c ≤ blocks) (most : blocks ≤ 1044480) where
  -- Where the pointer and M.USE go, the header after each store, and the header.
  abbrev at : ℕ
  at = next_pointer old

  abbrev pointed : List ℕ
  pointed = put_pointer old at s c

  abbrev used : List ℕ
  used = put_use pointed (m_use old + 2)

  abbrev h : List ℕ
  h = extended_header old s c

  at-is : at ≡ map_area old + 10 + 4 * pointers old
  unfolding next_pointer pointers_at
  at-is = omega arith

  pointers-is : 2 * pointers old ≡ m_use old
  unfolding pointers
  pointers-is = omega (arith, w.even)

  map-low : 46 ≤ map_area old
  unfolding map_area
  map-low = omega (arith, w.ident, w.map)

  map-high : map_area old + 10 + 2 * m_max old ≤ 510
  unfolding map_area
  map-high = omega (arith, w.room)

  at_high : at + 4 ≤ 510
  at_high = next-inside old w.room room

  pointed-agree : Agree (Outside at 4) old pointed
  pointed-agree = pointer-agree old at s c

  map-pointed : map_area pointed ≡ map_area old
  map-pointed = next_map old w.room room s c

  used-agree : Agree (Outside (map_area old + 8) 1) pointed used
  unfolding put_use
  used-agree = rw map-pointed (set-agree pointed (map_area old + 8) (m_use old + 2))

  h-agree : Agree (λ i. i < 510) used h
  unfolding extended_header
  h-agree = sealed-agree used

  -- The bytes that stay.
  abbrev Stays : ℕ → Type 0
  Stays i = (i < 510) × Outside (map_area old + 8) 1 i × Outside at 4 i

  stays : Agree Stays old h
  stays = agree_trans (agree-weaken (λ i p. p.2) pointed-agree) (agree_trans (agree-weaken (λ i p. p.1) used-agree) (agree-weaken (λ i p. p.0) h-agree))

  -- All before the map area stays, and in the map area all but M.USE.
  fixed : (i : ℕ) → i < 46 → Stays i
  fixed i l = (omega arith, λ p q. omega (arith, map-low), λ p q. omega (arith, map-low, at-is))

  in_map : (i : ℕ) → i < 10 → (i ≡ 8 → ⊥) → Stays (map_area old + i)
  in_map i l ne = (omega (arith, map-high), λ p q. ne (omega arith), λ p q. omega (arith, at-is))

  fixed_word : (i : ℕ) → i < 45 → word_at h i ≡ word_at old i
  fixed_word i l = word-agree stays i (fixed i (omega arith)) (fixed (i + 1) (omega arith))

  map_same : map_area h ≡ map_area old
  unfolding map_area h_mpof
  map_same = ap (λ (x : ℕ). 2 * x) (stays.same 1 (fixed 1 (omega arith)))

  map-byte : (i : ℕ) → i < 10 → (i ≡ 8 → ⊥) → byte_at h (map_area h + i) ≡ byte_at old (map_area old + i)
  map-byte i l ne = ap (λ (m : ℕ). byte_at h (m + i)) map_same ∙ stays.same (map_area old + i) (in_map i l ne)

  map-word : (i : ℕ) → i < 7 → word_at h (map_area h + i) ≡ word_at old (map_area old + i)
  map-word i l =
      let e : map_area old + (i + 1) ≡ map_area old + i + 1 = omega arith in
      ap (λ (m : ℕ). word_at h (m + i)) map_same
      ∙ word-agree stays (map_area old + i) (in_map i (omega arith) (λ q. omega arith)) (rw e at (in_map (i + 1) (omega arith) (λ q. omega arith)))

  use-is : m_use h ≡ m_use old + 2
  unfolding m_use put_use
  use-is =
      ap (λ (m : ℕ). byte_at h (m + 8)) map_same
      ∙ h-agree.same (map_area old + 8) (omega (arith, map-high))
      ∙ ap (λ (m : ℕ). byte_at used (m + 8)) (sym map-pointed)
      ∙ get_or-set_same pointed (map_area pointed + 8) (m_use old + 2) 0 (omega (arith, map-high, map-pointed, pointed-agree.len, long))

  max-is : m_max h ≡ m_max old
  unfolding m_max
  max-is = map-byte 9 (omega arith) (λ e. omega arith)

  pointers-more : pointers h ≡ pointers old + 1
  unfolding pointers
  pointers-more = omega (arith, use-is)

  pointers_at-same : pointers_at h ≡ pointers_at old
  unfolding pointers_at
  pointers_at-same = ap (λ (m : ℕ). m + 10) map_same

  -- The old pointers stay, and the new one is the last.
  before : (i : ℕ) → pointers_at old ≤ i → i < pointers_at old + 4 * pointers old → Stays i
  unfolding pointers_at
  before i p q = (omega (arith, at-is, at_high), λ x y. omega arith, λ x y. omega (arith, at-is))

  behind : Agree (λ i. (map_area old + 10 ≤ i) × (i < 510)) pointed h
  behind = agree_trans (agree-weaken (λ i p x y. omega arith) used-agree) (agree-weaken (λ i p. p.1) h-agree)

  last-lbn : pointer_lbn h at ≡ s
  last-lbn = lbn-agree behind at (λ i p q. (omega (arith, at-is), omega (arith, at_high))) ∙ pointer-lbn old at s c (omega (arith, long, at_high))

  last-count : pointer_count h at ≡ c
  last-count = count-agree behind at (λ i p q. (omega (arith, at-is), omega (arith, at_high))) ∙ pointer-count old at s c (omega (arith, long, at_high)) one

  last-run : run h at ≡ numbers_from s c
  unfolding run
  last-run = ap₂ numbers_from last-lbn last-count

  more : blocks_of h ≡ blocks_of old ++ numbers_from s c
  unfolding blocks_of next_pointer
  more =
      ap₂ (runs h) pointers_at-same pointers-more
      ∙ runs-more h (pointers_at old) (pointers old)
      ∙ ap₂ (λ (x y : List ℕ). x ++ y) (runs-agree stays (pointers_at old) (pointers old) before) last-run

  ends : (p : ℕ) → p < pointers h → pointer_lbn h (pointers_at h + 4 * p) + pointer_count h (pointers_at h + 4 * p) ≤ blocks
  unfolding next_pointer
  ends p l = rw pointers_at-same (go (ℕ_discrete p (pointers old)))
    where
      go : Dec (p ≡ pointers old) → pointer_lbn h (pointers_at old + 4 * p) + pointer_count h (pointers_at old + 4 * p) ≤ blocks
      go (yes e) = rw e (omega (arith, last-lbn, last-count))
      go (no ne) =
          let stay : (i : ℕ) → pointers_at old + 4 * p ≤ i → i < pointers_at old + 4 * p + 4 → Stays i = λ i x y. before i (omega arith) (omega (arith, pointers-more)) in
          omega (arith, w.ends p (omega (arith, pointers-more)), lbn-agree stays (pointers_at old + 4 * p) stay, count-agree stays (pointers_at old + 4 * p) stay)

  sum : checksum h 255 ≡ word_at h 510
  unfolding extended_header
  sum = sealed-sum used (used-agree.len ∙ pointed-agree.len ∙ long)

  all-bytes : Bytes h
  unfolding extended_header put_use
  all-bytes = sealed-bytes (set-bytes (map_area pointed + 8) (m_use old + 2) (omega (arith, w.room)) (pointer-bytes old at s c (omega arith) few bytes))

  whole : Whole blocks n h
  unfolding h_idof h_mpof h_fnum h_flev m_ervn m_efnu m_efsq m_ctsz m_lbsz
  whole = record {
    sum = sum;
    level = fixed_word 6 (omega arith) ∙ w.level;
    number = fixed_word 2 (omega arith) ∙ w.number;
    ident = rw (stays.same 0 (fixed 0 (omega arith))) w.ident;
    map = rw (stays.same 0 (fixed 0 (omega arith)), stays.same 1 (fixed 1 (omega arith))) w.map;
    room = rw (stays.same 1 (fixed 1 (omega arith)), max-is) w.room;
    even = omega (arith, use-is, w.even);
    filled = omega (arith, use-is, max-is);
    ctsz = map-byte 6 (omega arith) (λ e. omega arith) ∙ w.ctsz;
    lbsz = map-byte 7 (omega arith) (λ e. omega arith) ∙ w.lbsz;
    ervn = map-byte 1 (omega arith) (λ e. omega arith) ∙ w.ervn;
    unlinked = λ e. map-word 4 (omega arith) ∙ w.unlinked (sym (map-word 2 (omega arith)) ∙ e);
    ends = ends;
  }

  extends : Extends blocks n s c old h
  unfolding h_fseq user_flags system_flags segment m_efnu m_efsq
  extends = record {
    long = stays.len ∙ long;
    bytes = all-bytes;
    whole = whole-holds blocks n h whole;
    more = more;
    efnu = map-word 2 (omega arith);
    efsq = map-word 4 (omega arith);
    fseq = fixed_word 4 (omega arith);
    seg = ap (byte_at h) map_same ∙ stays.same (map_area old) (omega (arith, map-high), λ p q. omega arith, λ p q. omega (arith, at-is));
    user = stays.same 12 (fixed 12 (omega arith));
    system = stays.same 13 (fixed 13 (omega arith));
    attributes = λ i p q. stays.same i (fixed i q);
  }

pub extends-is : (blocks n s c : ℕ) (old : List ℕ) → length old ≡ 512 → Bytes old → fault blocks n old ≡ 0 → m_use old + 2 ≤ m_max old
    → 1 ≤ c → c ≤ 256 → s + c ≤ blocks → blocks ≤ 1044480 → Extends blocks n s c old (extended_header old s c)
extends-is blocks n s c old long bytes e room one few inside most = extends blocks n s c old long bytes (whole_is blocks n old e) room one few inside most
