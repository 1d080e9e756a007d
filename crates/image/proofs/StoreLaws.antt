-- Laws of stores: what each leaves as it was, and what is read back.
use Rattle.std.proofs.Common.{◌≡◌, ℕ, suc, ◌+◌, ◌-◌, ◌*◌, ◌/◌, ◌%◌, ◌<◌, ◌≤◌, List, [], ◌∷◌, ◌++◌, length, take, drop, set, sym, refl, ap, ◌∙◌, append_assoc, add-zero, add-one, arith, length-append, length-drop, length-set, take-append-drop, length-take, length-take-le, get_or-drop, get_or-set_other, get_or-take, take-suc, get_or-set_same, drop-drop, take_at, ext_get_or, drop_at}
use native.Mathlib.Nat.{zero-div}
use native.Mathlib.Decide.{ℕ_discrete, dec_lt}
use lib.ListN.{get_or-append, get_or-eq_default, length-replicate, get_or-replicate, replicate-append-replicate}
use lib.Seq.{set_at, set_split, take-length, paste}
use Rattle.image.specs.Words.{byte_at, Bytes, word_at}
use Rattle.image.specs.Blocks.{region, block}
use Rattle.image.specs.Sums.{checksum}
use Rattle.image.specs.Bits.{bit_of, bit_at}
use Rattle.image.specs.Stores.{put_word, splice, zeros, put_bit}
use Rattle.image.proofs.WordLaws.{word_same}
use Rattle.image.proofs.BlockLaws.{region-most, byte-region, region-one, byte-block}
use Rattle.image.proofs.SumLaws.{checksum-same}

-- j is none of the n places from `at` on.
abbrev pub Outside : ℕ → ℕ → ℕ → Type 0
Outside at n j = at ≤ j → j < at + n → ⊥

-- b' is as long as b, and has b's byte at each place of P.
pub record Agree (P : ℕ → Type 0) (b b' : List ℕ) : Type 0 where
  pub len : length b' ≡ length b
  pub same : (j : ℕ) → P j → byte_at b' j ≡ byte_at b j

pub agree_refl : (P : ℕ → Type 0) (b : List ℕ) → Agree P b b
agree_refl P b = record { len = refl; same = λ j p. refl }

pub agree_trans : {P : ℕ → Type 0} {b b' b'' : List ℕ} → Agree P b b' → Agree P b' b'' → Agree P b b''
agree_trans x y = record { len = y.len ∙ x.len; same = λ j p. y.same j p ∙ x.same j p }

pub agree-weaken : {P Q : ℕ → Type 0} {b b' : List ℕ} → ((j : ℕ) → Q j → P j) → Agree P b b' → Agree Q b b'
agree-weaken f a = record { len = a.len; same = λ j q. a.same j (f j q) }

-- What lies in the places of P is the same: a word, a bit, a region, a block, a checksum.
module _ {P : ℕ → Type 0} {b b' : List ℕ} (a : Agree P b b') where
  pub word-agree : (at : ℕ) → P at → P (at + 1) → word_at b' at ≡ word_at b at
  word-agree at p q = word_same b' b at at (a.same at p) (a.same (at + 1) q)

  pub bit_at-agree : (j : ℕ) → P (j / 8) → bit_at b' j ≡ bit_at b j
  unfolding bit_at
  bit_at-agree j p = ap (λ (x : ℕ). bit_of x (j % 8)) (a.same (j / 8) p)

  pub region-agree : (k q : ℕ) → ((o : ℕ) → o < 512 * q → P (512 * k + o)) → region b' k q ≡ region b k q
  unfolding region
  region-agree k q p =
      ext_get_or 0 (region b' k q) (region b k q) (simp (length-take, length-drop, a.len))
      (λ i h.
      let small : i < 512 * q = omega (arith, region-most b' k q) in
      byte-region b' k q i small ∙ a.same (512 * k + i) (p i small) ∙ sym (byte-region b k q i small))

  pub block-agree : (k : ℕ) → ((o : ℕ) → o < 512 → P (512 * k + o)) → block b' k ≡ block b k
  block-agree k p = sym (region-one b' k) ∙ region-agree k 1 p ∙ region-one b k

  pub checksum-agree : (n : ℕ) → ((o : ℕ) → o < 2 * n → P o) → checksum b' n ≡ checksum b n
  checksum-agree n p = checksum-same b' b n (λ i h. word-agree (2 * i) (p (2 * i) (omega arith)) (p (2 * i + 1) (omega arith)))

-- One byte.

pub set-agree : (b : List ℕ) (i x : ℕ) → Agree (Outside i 1) b (set b i x)
set-agree b i x = record { len = length-set b i x; same = λ j p. get_or-set_other b i j x 0 (λ e. p (omega arith) (omega arith)) }

pub set-bytes : {b : List ℕ} (i x : ℕ) → x < 256 → Bytes b → Bytes (set b i x)
set-bytes {b} i x h bytes = record { each = λ j. go j (ℕ_discrete j i) (dec_lt i (length b)) }
  where
    go : (j : ℕ) → Dec (j ≡ i) → Dec (i < length b) → byte_at (set b i x) j < 256
    go j (no ne) d = rw (get_or-set_other b i j x 0 ne) (bytes.each j)
    go j (yes e) (yes l) = rw (e, get_or-set_same b i x 0 l) h
    go j (yes e) (no l) = omega (arith, get_or-eq_default (set b i x) 0 {n = j} (simp length-set (omega arith)))

-- One word.

pub put_word-agree : (b : List ℕ) (at v : ℕ) → Agree (Outside at 2) b (put_word b at v)
unfolding put_word
put_word-agree b at v =
    agree_trans
    (agree-weaken (λ j p q r. p (omega arith) (omega arith)) (set-agree b at (v % 256)))
    (agree-weaken (λ j p q r. p (omega arith) (omega arith)) (set-agree (set b at (v % 256)) (at + 1) (v / 256)))

pub put_word-word : (b : List ℕ) (at v : ℕ) → at + 1 < length b → word_at (put_word b at v) at ≡ v
unfolding put_word word_at
put_word-word b at v h =
    let low = set b at (v % 256) in
    rw (get_or-set_other low (at + 1) at (v / 256) 0 (omega arith), get_or-set_same b at (v % 256) 0 (omega arith), get_or-set_same low (at + 1) (v / 256) 0 (simp length-set h))
    (omega arith)

pub put_word-bytes : {b : List ℕ} (at v : ℕ) → v < 65536 → Bytes b → Bytes (put_word b at v)
unfolding put_word
put_word-bytes at v h bytes = set-bytes (at + 1) (v / 256) (omega arith) (set-bytes at (v % 256) (omega arith) bytes)

-- A store after the words that are summed.
pub put_word-checksum : (b : List ℕ) (at v n : ℕ) → 2 * n ≤ at → checksum (put_word b at v) n ≡ checksum b n
put_word-checksum b at v n h = checksum-agree (put_word-agree b at v) n (λ o l p q. omega arith)

-- One bit.

pub put_bit-agree : (m : List ℕ) (j v : ℕ) → Agree (Outside (j / 8) 1) m (put_bit m j v)
unfolding put_bit
put_bit-agree m j v = set-agree m (j / 8) _

-- A run of bytes; none, and one, are stores that we know.

pub splice-none : (b : List ℕ) (at : ℕ) → splice b at [] ≡ b
unfolding splice
splice-none b at = rw (add-zero at) (take-append-drop at b)

pub set-splice : (b : List ℕ) (at x : ℕ) → at < length b → set b at x ≡ splice b at (x ∷ [])
unfolding splice
set-splice b at x h = rw (add-one at) (set_split b at x h)

pub splice-length : (b : List ℕ) (at : ℕ) (s : List ℕ) → at + length s ≤ length b → length (splice b at s) ≡ length b
unfolding splice
splice-length b at s h = simp (length-append, length-take, length-drop) (omega arith)

-- A part of n bytes that was lent to a function and came back as s.
pub part-splice : (b : List ℕ) (at n : ℕ) (s : List ℕ) → length s ≡ n → take at b ++ (s ++ drop n (drop at b)) ≡ splice b at s
unfolding splice
part-splice b at n s e = rw (← e, drop-drop)

-- One byte before the run.
pub splice-before : (b : List ℕ) (at x : ℕ) (s : List ℕ) → at < length b → set (splice b (at + 1) s) at x ≡ splice b at (x ∷ s)
unfolding splice
splice-before b at x s h =
    let rest = s ++ drop (at + 1 + length s) b in
    let front : take (at + 1) b ≡ take at b ++ (byte_at b at ∷ []) = rw (add-one at) (take-suc b at 0 h) in
    let e : at + 1 + length s ≡ at + suc (length s) = omega arith in
    rw (front, append_assoc (take at b)) (set_at (take at b) (byte_at b at) rest x at (length-take-le at b (omega arith)) ∙ ap (λ (n : ℕ). take at b ++ (x ∷ (s ++ drop n b))) e)

-- A run that a loop writes byte by byte.
pub paste-splice : (b : List ℕ) (at : ℕ) (s : List ℕ) → paste b at s (length s) ≡ splice b at s
unfolding splice
paste-splice b at s = rw (take-length s) (append_assoc (take at b) s (drop (at + length s) b))

module _ (b : List ℕ) (at : ℕ) (s : List ℕ) (inside : at ≤ length b) where
  head : length (take at b) ≡ at
  head = length-take-le at b inside

  splice_front : take (at + length s) (splice b at s) ≡ take at b ++ s
  unfolding splice
  splice_front =
      ap (take (at + length s)) (sym (append_assoc (take at b) s (drop (at + length s) b)))
      ∙ take_at (take at b ++ s) (drop (at + length s) b) (at + length s) (length-append (take at b) s ∙ ap (λ (n : ℕ). n + length s) head)

  splice-rest : drop at (splice b at s) ≡ s ++ drop (at + length s) b
  unfolding splice
  splice-rest = drop_at (take at b) (s ++ drop (at + length s) b) at head

  -- What was written is read back.
  pub splice-part : take (length s) (drop at (splice b at s)) ≡ s
  splice-part = ap (take (length s)) splice-rest ∙ take_at s (drop (at + length s) b) (length s) refl

  pub splice-byte : (i : ℕ) → i < length s → byte_at (splice b at s) (at + i) ≡ byte_at s i
  splice-byte i h =
      sym (get_or-drop at (splice b at s) i 0) ∙ ap (λ (l : List ℕ). byte_at l i) splice-rest ∙ get_or-append s (drop (at + length s) b) 0 i h

  splice-after : drop (at + length s) (splice b at s) ≡ drop (at + length s) b
  splice-after = sym (drop-drop (length s) at (splice b at s)) ∙ ap (drop (length s)) splice-rest ∙ drop_at s (drop (at + length s) b) (length s) refl

  -- Two runs, the second right behind the first, are one.
  pub splice-splice : (u : List ℕ) → splice (splice b at s) (at + length s) u ≡ splice b at (s ++ u)
  unfolding splice
  splice-splice u =
      let far = at + length s + length u in
      let rest : drop far (splice b at s) ≡ drop far b =
      sym (drop-drop (length u) (at + length s) (splice b at s)) ∙ ap (drop (length u)) splice-after ∙ drop-drop (length u) (at + length s) b in
      let e : at + length (s ++ u) ≡ far = omega (arith, length-append s u) in
      rw (splice_front, rest, e, append_assoc (take at b) s, append_assoc s u)

pub splice-agree : (b : List ℕ) (at : ℕ) (s : List ℕ) → at + length s ≤ length b → Agree (Outside at (length s)) b (splice b at s)
unfolding splice
splice-agree b at s h = record { len = splice-length b at s h; same = λ j p. go j p (dec_lt j at) }
  where
    go : (j : ℕ) → Outside at (length s) j → Dec (j < at) → byte_at (splice b at s) j ≡ byte_at b j
    go j p (yes l) = get_or-append (take at b) (s ++ drop (at + length s) b) 0 j (omega (arith, length-take at b)) ∙ get_or-take at b j 0 l
    go j p (no l) =
        let out : j < at + length s → ⊥ = λ q. p (omega arith) q in
        let n = j - (at + length s) in
        let e : at + length s + n ≡ j = omega arith in
        ap (byte_at (splice b at s)) (sym e)
        ∙ sym (get_or-drop (at + length s) (splice b at s) n 0)
        ∙ ap (λ (r : List ℕ). byte_at r n) (splice-after b at s (omega arith))
        ∙ get_or-drop (at + length s) b n 0
        ∙ ap (byte_at b) e

pub splice-bytes : {b s : List ℕ} (at : ℕ) → at + length s ≤ length b → Bytes b → Bytes s → Bytes (splice b at s)
splice-bytes {b} {s} at h bytes news = record { each = λ j. go j (dec_lt j at) (dec_lt j (at + length s)) }
  where
    kept : (j : ℕ) → Outside at (length s) j → byte_at (splice b at s) j < 256
    kept j o = rw ((splice-agree b at s h).same j o) (bytes.each j)

    go : (j : ℕ) → Dec (j < at) → Dec (j < at + length s) → byte_at (splice b at s) j < 256
    go j (yes p) d = kept j (λ x y. omega arith)
    go j (no p) (no q) = kept j (λ x y. omega arith)
    go j (no p) (yes q) =
        let e : at + (j - at) ≡ j = omega arith in
        rw (← e) (rw (splice-byte b at s (omega arith) (j - at) (omega arith)) (news.each (j - at)))

-- Whole blocks that were written are read back.
pub splice-region : (image : List ℕ) (k q : ℕ) (s : List ℕ) → length s ≡ 512 * q → 512 * k ≤ length image → region (splice image (512 * k) s) k q ≡ s
unfolding region
splice-region image k q s e h = rw (← e) (splice-part image (512 * k) s h)

pub splice-block : (image : List ℕ) (k : ℕ) (s : List ℕ) → length s ≡ 512 → 512 * k ≤ length image → block (splice image (512 * k) s) k ≡ s
splice-block image k s e h = sym (region-one (splice image (512 * k) s) k) ∙ splice-region image k 1 s e h

-- Bytes 0.

pub zeros-length : (n : ℕ) → length (zeros n) ≡ n
unfolding zeros
zeros-length n = length-replicate n 0

pub zeros-byte : (n i : ℕ) → byte_at (zeros n) i ≡ 0
unfolding zeros
zeros-byte n i = go (dec_lt i n)
  where
    go : Dec (i < n) → byte_at (zeros n) i ≡ 0
    go (yes h) = get_or-replicate n i 0 0 h
    go (no h) = get_or-eq_default (zeros n) 0 (omega (arith, zeros-length n))

pub zeros-word : (n at : ℕ) → word_at (zeros n) at ≡ 0
unfolding word_at
zeros-word n at = omega (arith, zeros-byte n at, zeros-byte n (at + 1))

pub zeros-bit : (n j : ℕ) → bit_at (zeros n) j ≡ 0
unfolding bit_at bit_of
zeros-bit n j = rw (zeros-byte n (j / 8), zero-div) refl

pub zeros-bytes : (n : ℕ) → Bytes (zeros n)
zeros-bytes n = record { each = λ i. omega (arith, zeros-byte n i) }

pub zeros-append : (n m : ℕ) → zeros n ++ zeros m ≡ zeros (n + m)
unfolding zeros
zeros-append n m = replicate-append-replicate n m 0

-- Blocks.

-- b' is as long as b, and has b's block at each k of P.
pub record Keeps (P : ℕ → Type 0) (b b' : List ℕ) : Type 0 where
  pub len : length b' ≡ length b
  pub same : (k : ℕ) → P k → block b' k ≡ block b k

pub keeps-refl : (P : ℕ → Type 0) (b : List ℕ) → Keeps P b b
keeps-refl P b = record { len = refl; same = λ k p. refl }

pub keeps-trans : {P : ℕ → Type 0} {b b' b'' : List ℕ} → Keeps P b b' → Keeps P b' b'' → Keeps P b b''
keeps-trans x y = record { len = y.len ∙ x.len; same = λ k p. y.same k p ∙ x.same k p }

pub keeps-weaken : {P Q : ℕ → Type 0} {b b' : List ℕ} → ((k : ℕ) → Q k → P k) → Keeps P b b' → Keeps Q b b'
keeps-weaken f a = record { len = a.len; same = λ k q. a.same k (f k q) }

-- Kept places make kept blocks, and kept blocks kept places.
pub agree_keeps : {P Q : ℕ → Type 0} {b b' : List ℕ} → Agree P b b' → ((k : ℕ) → Q k → (o : ℕ) → o < 512 → P (512 * k + o)) → Keeps Q b b'
agree_keeps a f = record { len = a.len; same = λ k q. block-agree a k (f k q) }

pub keeps-agree : {P : ℕ → Type 0} {b b' : List ℕ} → Keeps P b b' → Agree (λ j. P (j / 512)) b b'
keeps-agree {P} {b} {b'} a = record {
  len = a.len;
  same = λ j p. sym (at b' j) ∙ ap (λ (r : List ℕ). byte_at r (j % 512)) (a.same (j / 512) p) ∙ at b j;
}
  where
    at : (r : List ℕ) (j : ℕ) → byte_at (block r (j / 512)) (j % 512) ≡ byte_at r j
    at r j = byte-block r (j / 512) (j % 512) (omega arith) ∙ ap (byte_at r) (omega arith)

-- The blocks outside those that are written.
pub splice-keeps : (b : List ℕ) (k q : ℕ) (s : List ℕ) → length s ≡ 512 * q → 512 * (k + q) ≤ length b → Keeps (Outside k q) b (splice b (512 * k) s)
splice-keeps b k q s e h = agree_keeps (splice-agree b (512 * k) s (omega arith)) (λ i out o l x y. out (omega arith) (omega arith))
