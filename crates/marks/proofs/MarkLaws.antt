-- Laws of tables, and of the marks of a work area.
use mathlib.Core.Path.{◌≡◌, refl, sym, ap, ◌∙◌}
use mathlib.Core.Bool.{true, false}
use mathlib.Core.List.{List, [], ◌∷◌, ◌++◌, append-nil, append_assoc}
use Prim.Native.Nat.{ℕ, zero, suc, ◌+◌, ◌-◌, ◌≤◌, ◌<◌, min}
use native.Mathlib.Nat.{zero-add, add-zero, sub-zero, suc-add}
use native.Mathlib.Decide.{ℕ_discrete, dec_lt}
use native.Mathlib.Numerals.{add-one}
use native.Mathlib.Omega.{arith}
use borrow.Author.Fill.{fill_more}
use borrow.Author.Tests.{le-leb, lt-leb, eq-eqb, ne_eqb}
use lib.Dec.{leb, eqb}
use lib.ListN.{length, get_or, drop, set, length-set, length-append, length-drop, get_or-append}
use lib.Seq.{ext_get_or, get_or-set_same, get_or-set_other, set-append_left, drop_at, drop-cons, set_at, get_or-drop, get_or-append-add}
use Rattle.lists.specs.First.{first}
use Rattle.image.specs.Words.{byte_at, Bytes}
use Rattle.image.specs.Stores.{zeros}
use Rattle.lists.specs.Lists.{numbers_from}
use Rattle.lists.proofs.FirstLaws.{first-is}
use Rattle.lists.proofs.NumbersLaws.{numbers_from-none, numbers_from-last}
use Rattle.image.proofs.StoreLaws.{zeros-length, zeros-byte}
use Rattle.lists.specs.Counts.{one_if, count}
use Rattle.marks.specs.Marks.{table, capped, tallied, cleared, raised, raised_by, lowered, marked_twice, marked}
use Rattle.lists.proofs.CountLaws.{count_none, count-here, count-skip, count-append}

-- Tables.

pub table-length : (f : ℕ → ℕ) (s n : ℕ) → length (table f s n) ≡ n
unfolding table
table-length f s zero = refl
table-length f s (suc n) = ap suc (table-length f (s + 1) n)

pub table_at : (f : ℕ → ℕ) (s n i : ℕ) → i < n → get_or (table f s n) i 0 ≡ f (s + i)
unfolding table
table_at f s zero i h = absurd (omega arith)
table_at f s (suc n) zero h = ap f (omega arith)
table_at f s (suc n) (suc i) h = table_at f (s + 1) n i (omega arith) ∙ ap f (omega arith)

-- A list is a table where its elements are.
pub table_is : (f : ℕ → ℕ) (s n : ℕ) (l : List ℕ) → length l ≡ n → ((i : ℕ) → i < n → get_or l i 0 ≡ f (s + i)) → l ≡ table f s n
table_is f s n l e h = ext_get_or 0 l (table f s n) (e ∙ sym (table-length f s n)) (λ i k. h i (omega arith) ∙ sym (table_at f s n i (omega arith)))

-- Another function with the same values.
pub table_same : (f g : ℕ → ℕ) (s n : ℕ) → ((i : ℕ) → i < n → f (s + i) ≡ g (s + i)) → table f s n ≡ table g s n
table_same f g s n h = table_is g s n (table f s n) (table-length f s n) (λ i k. table_at f s n i k ∙ h i k)

-- One element more, at the end.
pub table-last : (f : ℕ → ℕ) (s n : ℕ) → table f s (n + 1) ≡ table f s n ++ (f (s + n) ∷ [])
unfolding table
table-last f s zero = ap (λ (x : ℕ). f x ∷ []) (omega arith)
table-last f s (suc n) =
    let e : s + 1 + n ≡ s + suc n = omega arith in
    rw (suc-add n 1) (ap (λ (l : List ℕ). f s ∷ l) (table-last f (s + 1) n ∙ ap (λ (x : ℕ). table f (s + 1) n ++ (f x ∷ [])) e))

-- A store right behind the table makes it one longer.
pub table_more : (f : ℕ → ℕ) (n : ℕ) (area : List ℕ) → n < length area → set (table f 0 n ++ drop n area) n (f n) ≡ table f 0 (n + 1) ++ drop (n + 1) area
table_more f n area h =
    rw (table-last, zero-add n, add-one n, drop-cons area n 0 h, append_assoc) (set_at (table f 0 n) (get_or area n 0) (drop (suc n) area) (f n) n (table-length f 0 n))

-- A store takes the table of f to the table of g, where the two differ at the place stored alone.
pub table-set : (f g : ℕ → ℕ) (s n j v : ℕ) (rest : List ℕ) → j < n → g (s + j) ≡ v → ((i : ℕ) → i < n → (i ≡ j → ⊥) → g (s + i) ≡ f (s + i))
    → set (table f s n ++ rest) j v ≡ table g s n ++ rest
table-set f g s n j v rest h here others =
    set-append_left (table f s n) rest j v (omega (arith, table-length f s n))
    ∙ ap (λ (l : List ℕ). l ++ rest) (table_is g s n (set (table f s n) j v) (length-set (table f s n) j v ∙ table-length f s n) (λ i k. go i k (ℕ_discrete i j)))
  where
    go : (i : ℕ) → i < n → Dec (i ≡ j) → get_or (set (table f s n) j v) i 0 ≡ g (s + i)
    go i k (yes e) = rw e (get_or-set_same (table f s n) j v 0 (omega (arith, table-length f s n)) ∙ sym here)
    go i k (no ne) = get_or-set_other (table f s n) j i v 0 ne ∙ table_at f s n i k ∙ sym (others i k ne)

-- Capped counts.

pub capped-none : (x : ℕ) → capped [] x ≡ 0
unfolding capped
capped-none x = omega (arith, count_none x)

pub capped-here : (l : List ℕ) (t : ℕ) → capped (l ++ t ∷ []) t ≡ min 2 (capped l t + 1)
unfolding capped
capped-here l t = omega (arith, count-append t l (t ∷ []), count-here t [], count_none t)

pub capped-other : (l : List ℕ) (t x : ℕ) → (x ≡ t → ⊥) → capped (l ++ t ∷ []) x ≡ capped l x
unfolding capped
capped-other l t x ne = omega (arith, count-append x l (t ∷ []), count-skip x t [] ne, count_none x)

pub capped-twice : (l : List ℕ) (x : ℕ) → leb 2 (capped l x) ≡ leb 2 (count x l)
unfolding capped
capped-twice l x = go (count x l) (dec_lt 1 (count x l))
  where
    go : (c : ℕ) → Dec (1 < c) → leb 2 (min 2 c) ≡ leb 2 c
    go c (yes h) = le-leb 2 (min 2 c) (omega arith) ∙ sym (le-leb 2 c h)
    go c (no h) = lt-leb 2 (min 2 c) (omega arith) ∙ sym (lt-leb 2 c (omega arith))

pub capped-some : (l : List ℕ) (x : ℕ) → leb 1 (capped l x) ≡ leb 1 (count x l)
unfolding capped
capped-some l x = go (count x l) (dec_lt 0 (count x l))
  where
    go : (c : ℕ) → Dec (0 < c) → leb 1 (min 2 c) ≡ leb 1 c
    go c (yes h) = le-leb 1 (min 2 c) (omega arith) ∙ sym (le-leb 1 c h)
    go c (no h) = lt-leb 1 (min 2 c) (omega arith) ∙ sym (lt-leb 1 c (omega arith))

pub capped-clear : (l : List ℕ) (x : ℕ) → eqb (capped l x) 0 ≡ eqb (count x l) 0
unfolding capped
capped-clear l x = go (count x l) (ℕ_discrete (count x l) 0)
  where
    go : (c : ℕ) → Dec (c ≡ 0) → eqb (min 2 c) 0 ≡ eqb c 0
    go c (yes h) = eq-eqb (min 2 c) 0 (omega arith) ∙ sym (eq-eqb c 0 h)
    go c (no h) = ne_eqb (min 2 c) 0 (λ e. h (omega arith)) ∙ sym (ne_eqb c 0 h)

-- What a mark says.
pub twice-true : (area : List ℕ) (i : ℕ) → 2 ≤ byte_at area i → marked_twice area i ≡ true
unfolding marked_twice
twice-true area i h = le-leb 2 (byte_at area i) h

pub twice-false : (area : List ℕ) (i : ℕ) → byte_at area i < 2 → marked_twice area i ≡ false
unfolding marked_twice
twice-false area i h = lt-leb 2 (byte_at area i) h

pub twice-none : (area : List ℕ) (k : ℕ) → ((j : ℕ) → j < k → byte_at area j < 2) → first (marked_twice area) 0 k ≡ k
twice-none area k low =
    first-is (marked_twice area) 0 k k (record { low = omega arith; high = omega arith; before = λ j a b. twice-false area j (low j b); here = λ l. absurd (omega arith) })

-- A mark that says "covered" adds what it is capped at 1.
pub marked-one : (area : List ℕ) (i : ℕ) → one_if (marked area i) ≡ min 1 (byte_at area i)
unfolding marked
marked-one area i = go (byte_at area i)
  where
    go : (m : ℕ) → one_if (leb 1 m) ≡ min 1 m
    go zero = refl
    go (suc m) = rw (le-leb 1 (suc m) (omega arith)) (omega arith)

-- The marks of an area.

module _ (l : List ℕ) (s k : ℕ) (area : List ℕ) where
  pub tallied-length : k ≤ length area → length (tallied l s k area) ≡ length area
  unfolding tallied
  tallied-length h = simp (length-append, table-length, length-drop) (omega arith)

  pub tallied-at : (i : ℕ) → i < k → byte_at (tallied l s k area) i ≡ capped l (s + i)
  unfolding tallied
  tallied-at i h = get_or-append (table (capped l) s k) (drop k area) 0 i (omega (arith, table-length (capped l) s k)) ∙ table_at (capped l) s k i h

  -- Bytes beyond are unchanged.
  pub tallied-drop : drop k (tallied l s k area) ≡ drop k area
  unfolding tallied
  tallied-drop = drop_at (table (capped l) s k) (drop k area) k (table-length (capped l) s k)

  pub tallied-beyond : (i : ℕ) → k ≤ i → byte_at (tallied l s k area) i ≡ byte_at area i
  tallied-beyond i h =
      let e : k + (i - k) ≡ i = omega arith in
      rw (← e) (sym (get_or-drop k (tallied l s k area) (i - k) 0) ∙ ap (λ (r : List ℕ). byte_at r (i - k)) tallied-drop ∙ get_or-drop k area (i - k) 0)

  pub tallied-bytes : Bytes area → Bytes (tallied l s k area)
  unfolding capped
  tallied-bytes bytes = record { each = λ i. go i (dec_lt i k) }
    where
      go : (i : ℕ) → Dec (i < k) → byte_at (tallied l s k area) i < 256
      go i (yes h) = omega (arith, tallied-at i h)
      go i (no h) = omega (arith, tallied-beyond i (omega arith), bytes.each i)

  -- What a mark says of the list.
  pub tallied-twice : (i : ℕ) → i < k → marked_twice (tallied l s k area) i ≡ leb 2 (count (s + i) l)
  unfolding marked_twice
  tallied-twice i h = rw (tallied-at i h) (capped-twice l (s + i))

  pub tallied-marked : (i : ℕ) → i < k → marked (tallied l s k area) i ≡ leb 1 (count (s + i) l)
  unfolding marked
  tallied-marked i h = rw (tallied-at i h) (capped-some l (s + i))

  pub tallied-clear : (i : ℕ) → i < k → eqb (byte_at (tallied l s k area) i) 0 ≡ eqb (count (s + i) l) 0
  tallied-clear i h = rw (tallied-at i h) (capped-clear l (s + i))

-- Clearing and lowering, one mark after the other.

pub cleared-none : (area : List ℕ) → cleared area 0 ≡ area
unfolding cleared zeros
cleared-none area = refl

pub cleared_more : (area : List ℕ) (i : ℕ) → i < length area → set (cleared area i) i 0 ≡ cleared area (i + 1)
unfolding cleared zeros
cleared_more area i h = fill_more i 0 area h

pub lowered_none : (area : List ℕ) → lowered area 0 ≡ area
unfolding lowered table
lowered_none area = refl

pub lowered-next : (area : List ℕ) (i : ℕ) → byte_at (lowered area i) i ≡ byte_at area i
unfolding lowered
lowered-next area i =
    let t : List ℕ = table (λ j. min 1 (byte_at area j)) 0 i in
    let e : i ≡ length t + 0 = omega (arith, table-length (λ j. min 1 (byte_at area j)) 0 i) in
    ap (byte_at (t ++ drop i area)) e ∙ get_or-append-add t (drop i area) 0 0 ∙ get_or-drop i area 0 0 ∙ ap (byte_at area) (add-zero i)

pub lowered-more : (area : List ℕ) (i : ℕ) → i < length area → set (lowered area i) i (min 1 (byte_at area i)) ≡ lowered area (i + 1)
unfolding lowered
lowered-more area i h = table_more (λ j. min 1 (byte_at area j)) i area h

-- Lists with the same capped counts leave the same marks.
pub tallied-same : (l l' : List ℕ) (s k : ℕ) (area : List ℕ) → ((i : ℕ) → i < k → capped l (s + i) ≡ capped l' (s + i)) → tallied l s k area ≡ tallied l' s k area
unfolding tallied
tallied-same l l' s k area h = ap (λ (t : List ℕ). t ++ drop k area) (table_same (capped l) (capped l') s k h)

-- No number yet: zeros.
pub cleared-tallied : (s k : ℕ) (area : List ℕ) → cleared area k ≡ tallied [] s k area
unfolding cleared tallied
cleared-tallied s k area =
    ap (λ (t : List ℕ). t ++ drop k area) (table_is (capped []) s k (zeros k) (zeros-length k) (λ i h. zeros-byte k i ∙ sym (capped-none (s + i))))

-- One number more: one of those counted, or another.
tallied-store : (l : List ℕ) (s k : ℕ) (area : List ℕ) (t i : ℕ) → s + i ≡ t → i < k → set (tallied l s k area) i (min 2 (capped l t + 1)) ≡ tallied (l ++ t ∷ []) s k area
unfolding tallied
tallied-store l s k area t i e h =
    table-set (capped l) (capped (l ++ t ∷ [])) s k i _ (drop k area) h (rw e (capped-here l t)) (λ m a ne. capped-other l t (s + m) (λ z. ne (omega arith)))

pub tallied-raised : (l : List ℕ) (s k : ℕ) (area : List ℕ) (t : ℕ) → s ≤ t → t < s + k → raised (tallied l s k area) (t - s) ≡ tallied (l ++ t ∷ []) s k area
unfolding raised
tallied-raised l s k area t low high =
    let e : s + (t - s) ≡ t = omega arith in
    rw (tallied-at l s k area (t - s) (omega arith), e) (tallied-store l s k area t (t - s) e (omega arith))

pub tallied-other : (l : List ℕ) (s k : ℕ) (area : List ℕ) (t : ℕ) → (s ≤ t → t < s + k → ⊥) → tallied l s k area ≡ tallied (l ++ t ∷ []) s k area
tallied-other l s k area t out =
    tallied-same l (l ++ t ∷ []) s k area (λ i h. sym (capped-other l t (s + i) (λ z. out (omega arith) (omega arith))))

-- A list of places.

pub raised-length : (area : List ℕ) (i : ℕ) → length (raised area i) ≡ length area
unfolding raised
raised-length area i = length-set area i _

pub raised_by-none : (area : List ℕ) → raised_by area [] ≡ area
unfolding raised_by
raised_by-none area = refl

pub raised_by-one : (area : List ℕ) (i : ℕ) → raised_by area (i ∷ []) ≡ raised area i
unfolding raised_by
raised_by-one area i = refl

pub raised_by-append : (area is js : List ℕ) → raised_by area (is ++ js) ≡ raised_by (raised_by area is) js
unfolding raised_by
raised_by-append area [] js = refl
raised_by-append area (i ∷ is) js = raised_by-append (raised area i) is js

-- The places of a run: none, and one more.
pub raised_run-none : (area : List ℕ) (s : ℕ) → raised_by area (numbers_from s 0) ≡ area
raised_run-none area s = rw numbers_from-none (raised_by-none area)

pub raised_run-more : (area : List ℕ) (s i : ℕ) → raised_by area (numbers_from s (i + 1)) ≡ raised (raised_by area (numbers_from s i)) (s + i)
raised_run-more area s i = rw numbers_from-last (raised_by-append area (numbers_from s i) ((s + i) ∷ []) ∙ raised_by-one (raised_by area (numbers_from s i)) (s + i))

pub raised_by-length : (area js : List ℕ) → length (raised_by area js) ≡ length area
unfolding raised_by
raised_by-length area [] = refl
raised_by-length area (j ∷ js) = raised_by-length (raised area j) js ∙ raised-length area j

-- Places below k, where mark i is the count of i: the numbers of the places join the list.
pub tallied-by : (l js : List ℕ) (k : ℕ) (area : List ℕ) → ((i : ℕ) → i < length js → get_or js i 0 < k) → raised_by (tallied l 0 k area) js ≡ tallied (l ++ js) 0 k area
unfolding raised_by
tallied-by l [] k area h = rw append-nil
tallied-by l (j ∷ js) k area h =
    let one : raised (tallied l 0 k area) j ≡ tallied (l ++ j ∷ []) 0 k area =
    ap (raised (tallied l 0 k area)) (sym (sub-zero j)) ∙ tallied-raised l 0 k area j (omega arith) (omega (arith, h 0 (omega arith))) in
    ap (λ (a : List ℕ). raised_by a js) one
    ∙ tallied-by (l ++ j ∷ []) js k area (λ i a. h (suc i) (omega arith))
    ∙ ap (λ (r : List ℕ). tallied r 0 k area) (append_assoc l (j ∷ []) js)

-- Marks capped at 1.
tallied-table : (t l : List ℕ) (s k : ℕ) (area : List ℕ) → t ≡ table (capped l) s k → t ++ drop k area ≡ tallied l s k area
unfolding tallied
tallied-table t l s k area e = ap (λ (r : List ℕ). r ++ drop k area) e

pub lowered-tallied : (l l' : List ℕ) (k : ℕ) (area : List ℕ) → ((j : ℕ) → j < k → min 1 (capped l' j) ≡ capped l j) → lowered (tallied l' 0 k area) k ≡ tallied l 0 k area
unfolding lowered
lowered-tallied l l' k area h =
    rw (tallied-drop l' 0 k area) (tallied-table _ l 0 k area (table_same (λ i. min 1 (byte_at (tallied l' 0 k area) i)) (capped l) 0 k (λ i a. rw (zero-add i) (at i a))))
  where
    at : (i : ℕ) → i < k → min 1 (byte_at (tallied l' 0 k area) i) ≡ capped l i
    at i a = ap (min 1) (tallied-at l' 0 k area i a ∙ ap (capped l') (zero-add i)) ∙ h i a
