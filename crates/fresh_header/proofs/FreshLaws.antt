-- Laws of a fresh header: it is whole, covers nothing, links to nothing and has the sequence that it was given.
-- Its bytes before the checksum are read by computing the stores.
use mathlib.Core.Path.{◌≡◌, refl, ap, ◌∙◌}
use mathlib.Core.List.{List, []}
use Prim.Native.Nat.{ℕ, ◌+◌, ◌*◌, ◌/◌, ◌%◌, ◌<◌}
use native.Mathlib.Omega.{arith}
use lib.ListN.{length}
use Rattle.image.specs.Words.{byte_at, word_at, Bytes}
use Rattle.image.specs.Sums.{checksum}
use Rattle.image.specs.Stores.{put_word, zeros}
use Rattle.image.proofs.StoreLaws.{Agree, set-bytes, put_word-bytes, zeros-bytes}
use Rattle.answer.specs.declared.types.Name.{Name}
use Rattle.header.specs.Fields.{h_idof, h_mpof, h_fnum, h_fseq, h_flev, user_flags, system_flags, map_area, segment, m_ervn, m_efnu, m_efsq, m_ctsz, m_lbsz, m_use, m_max}
use Rattle.pointers.specs.Pointers.{pointers, pointers_at, runs, blocks_of}
use Rattle.whole.specs.Whole.{fault}
use Rattle.whole.proofs.WholeLaws.{Whole, whole-holds}
use Rattle.fresh_header.specs.Fresh.{identified, named, mapped, fresh_header}
use Rattle.fresh_header.proofs.SealedLaws.{sealed-agree, sealed-sum, sealed-bytes}

-- A whole header of number n that covers nothing, links to nothing and has no flag, on a volume of so many blocks.
pub record Fresh (blocks n sequence : ℕ) (h : List ℕ) : Type 0 where
  pub long : length h ≡ 512
  pub bytes : Bytes h
  pub whole : fault blocks n h ≡ 0
  pub empty : blocks_of h ≡ []
  pub unlinked : m_efnu h ≡ 0
  pub first : segment h ≡ 0
  pub fseq : h_fseq h ≡ sequence
  pub user : user_flags h ≡ 0
  pub system : system_flags h ≡ 0

module _ (n sequence owner protection : ℕ) (name : Name) where
  -- The header before its checksum, and the header.
  abbrev raw : List ℕ
  raw = mapped (named (identified (zeros 512) n sequence owner protection) name)

  abbrev h : List ℕ
  h = fresh_header n sequence owner protection name

  raw-long : length raw ≡ 512
  unfolding mapped named identified zeros put_word
  raw-long = refl

  raw-bytes : n < 65536 → sequence < 65536 → owner < 65536 → protection < 65536
      → name.name1 < 65536 → name.name2 < 65536 → name.name3 < 65536 → name.typ < 65536 → name.version < 65536 → Bytes raw
  unfolding mapped named identified
  raw-bytes ln ls lo lp l1 l2 l3 lt lv =
      set-bytes _ _ (omega arith) (set-bytes _ _ (omega arith) (set-bytes _ _ (omega arith)
      (put_word-bytes _ _ lv (put_word-bytes _ _ lt (put_word-bytes _ _ l3 (put_word-bytes _ _ l2 (put_word-bytes _ _ l1
      (put_word-bytes _ _ (omega arith) (put_word-bytes _ _ (omega arith) (put_word-bytes _ _ (omega arith) (put_word-bytes _ _ (omega arith) (put_word-bytes _ _ (omega arith)
      (set-bytes _ _ (omega arith) (set-bytes _ _ (omega arith) (zeros-bytes 512)))))))))))))))

  agree : Agree (λ i. i < 510) raw h
  unfolding fresh_header
  agree = sealed-agree raw

  sum : checksum h 255 ≡ word_at h 510
  unfolding fresh_header
  sum = sealed-sum raw raw-long

  all-bytes : Bytes raw → Bytes h
  unfolding fresh_header
  all-bytes bytes = sealed-bytes bytes

  -- A byte, and a word, of the header.
  byte-is : (i v : ℕ) → i < 510 → byte_at raw i ≡ v → byte_at h i ≡ v
  byte-is i v l e = agree.same i l ∙ e

  word-is : (i v : ℕ) → i < 509 → byte_at raw i ≡ v % 256 → byte_at raw (i + 1) ≡ v / 256 → word_at h i ≡ v
  unfolding word_at
  word-is i v l low high = omega (arith, byte-is i (v % 256) (omega arith) low, byte-is (i + 1) (v / 256) (omega arith) high)

  map_is : map_area h ≡ 92
  unfolding map_area h_mpof mapped named identified zeros put_word
  map_is = ap (λ (x : ℕ). 2 * x) (byte-is 1 46 (omega arith) refl)

  -- A byte, and a word, of its map area.
  map-byte : (i v : ℕ) → i < 10 → byte_at raw (92 + i) ≡ v → byte_at h (map_area h + i) ≡ v
  map-byte i v l e = ap (λ (m : ℕ). byte_at h (m + i)) map_is ∙ byte-is (92 + i) v (omega arith) e

  map-word : (i : ℕ) → i < 9 → byte_at raw (92 + i) ≡ 0 → byte_at raw (92 + i + 1) ≡ 0 → word_at h (map_area h + i) ≡ 0
  map-word i l low high = ap (λ (m : ℕ). word_at h (m + i)) map_is ∙ word-is (92 + i) 0 (omega arith) low high

  segment-is : segment h ≡ 0
  unfolding segment mapped named identified zeros put_word
  segment-is = ap (byte_at h) map_is ∙ byte-is 92 0 (omega arith) refl

  use-is : m_use h ≡ 0
  unfolding m_use mapped named identified zeros put_word
  use-is = map-byte 8 0 (omega arith) refl

  max-is : m_max h ≡ 204
  unfolding m_max mapped named identified zeros put_word
  max-is = map-byte 9 204 (omega arith) refl

  none : pointers h ≡ 0
  unfolding pointers
  none = ap (λ (x : ℕ). x / 2) use-is

  covers-none : blocks_of h ≡ []
  unfolding blocks_of runs
  covers-none = ap (runs h (pointers_at h)) none

  whole_is : (blocks : ℕ) → Whole blocks n h
  unfolding h_idof h_mpof h_fnum h_flev m_ervn m_efsq m_ctsz m_lbsz mapped named identified zeros put_word
  whole_is blocks = record {
    sum = sum;
    level = word-is 6 257 (omega arith) refl refl;
    number = word-is 2 n (omega arith) refl refl;
    ident = omega (arith, byte-is 0 23 (omega arith) refl);
    map = omega (arith, byte-is 0 23 (omega arith) refl, byte-is 1 46 (omega arith) refl);
    room = omega (arith, byte-is 1 46 (omega arith) refl, max-is);
    even = omega (arith, use-is);
    filled = omega (arith, use-is);
    ctsz = map-byte 6 1 (omega arith) refl;
    lbsz = map-byte 7 3 (omega arith) refl;
    ervn = map-byte 1 0 (omega arith) refl;
    unlinked = λ e. map-word 4 (omega arith) refl refl;
    ends = λ p l. absurd (omega (arith, none));
  }

pub fresh-is : (blocks n sequence owner protection : ℕ) (name : Name) → n < 65536 → sequence < 65536 → owner < 65536 → protection < 65536
    → name.name1 < 65536 → name.name2 < 65536 → name.name3 < 65536 → name.typ < 65536 → name.version < 65536
    → Fresh blocks n sequence (fresh_header n sequence owner protection name)
unfolding h_fseq user_flags system_flags m_efnu mapped named identified zeros put_word
fresh-is blocks n sequence owner protection name ln ls lo lp l1 l2 l3 lt lv = record {
  long = (agree n sequence owner protection name).len ∙ raw-long n sequence owner protection name;
  bytes = all-bytes n sequence owner protection name (raw-bytes n sequence owner protection name ln ls lo lp l1 l2 l3 lt lv);
  whole = whole-holds blocks n (fresh_header n sequence owner protection name) (whole_is n sequence owner protection name blocks);
  empty = covers-none n sequence owner protection name;
  unlinked = map-word n sequence owner protection name 2 (omega arith) refl refl;
  first = segment-is n sequence owner protection name;
  fseq = word-is n sequence owner protection name 4 sequence (omega arith) refl refl;
  user = byte-is n sequence owner protection name 12 0 (omega arith) refl;
  system = byte-is n sequence owner protection name 13 0 (omega arith) refl;
}
