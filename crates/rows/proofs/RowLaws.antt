-- Laws of rows: what a row has, how blocks more carry it on, and what a walk over a file's chain knows of it.
use mathlib.Core.Path.{◌≡◌, refl, sym, ap, subst, ◌∙◌}
use mathlib.Core.Bool.{true, false}
use mathlib.Core.List.{List, [], ◌++◌, append-nil, append_assoc}
use Prim.Native.Nat.{ℕ, ◌+◌, ◌*◌, ◌-◌, ◌≤◌, ◌<◌}
use native.Mathlib.Decide.{ℕ_discrete, dec_lt}
use native.Mathlib.Nat.{add-zero}
use native.Mathlib.Omega.{arith}
use borrow.Author.Tests.{not-true, not-false, eqb-true, eqb-false, eq-eqb, ne_eqb, le-leb, lt-leb, lt-ltb, le-ltb}
use lib.Dec.{eqb}
use lib.ListN.{length, get_or, take, length-append, get_or-append}
use lib.Seq.{get_or-append-add, take_all}
use Rattle.lists.specs.Lists.{numbers_from}
use Rattle.lists.proofs.FirstLaws.{Is, first-has, first-is}
use Rattle.lists.proofs.NumbersLaws.{numbers_from-length, numbers_from-at}
use Rattle.answer.specs.declared.types.Lbn.{Lbn}
use Rattle.header.specs.Fields.{m_efnu}
use Rattle.pointers.specs.Pointers.{pointer_lbn, pointer_count, run, runs, blocks_of}
use Rattle.pointers.proofs.PointerLaws.{runs_none, runs-more}
use Rattle.chains.specs.Chains.{NextHeader, file_blocks}
use Rattle.chains.proofs.ChainLaws.{Walk, walk-take, walk-end-length, walk-next}
use Rattle.rows.specs.declared.Row.{Row}
use Rattle.rows.specs.declared.Row.TheVariants.{Ahead, Open, Ended}
use Rattle.rows.specs.Rows.{breaks, row_length, row_in, carried_on, Carries}

-- The blocks of a list of LBNs, from place p on, lie one after the other up to t of them, and no further.
pub record InRow (lbns : List ℕ) (p t : ℕ) : Type 0 where
  pub inside : p + t ≤ length lbns
  pub each : (i : ℕ) → i < t → get_or lbns (p + i) 0 ≡ get_or lbns p 0 + i
  pub end : p + t < length lbns → get_or lbns (p + t) 0 ≡ get_or lbns p 0 + t → ⊥

module _ (lbns : List ℕ) (p : ℕ) where
  module _ (i : ℕ) where
    goes : breaks lbns p i ≡ false → get_or lbns (p + i) 0 ≡ get_or lbns p 0 + i
    unfolding breaks
    goes e = eqb-true (get_or lbns (p + i) 0) (get_or lbns p 0 + i) (not-false (eqb (get_or lbns (p + i) 0) (get_or lbns p 0 + i)) e)

    goes-not : breaks lbns p i ≡ true → get_or lbns (p + i) 0 ≡ get_or lbns p 0 + i → ⊥
    unfolding breaks
    goes-not e = eqb-false (get_or lbns (p + i) 0) (get_or lbns p 0 + i) (not-true (eqb (get_or lbns (p + i) 0) (get_or lbns p 0 + i)) e)

    breaks-not : get_or lbns (p + i) 0 ≡ get_or lbns p 0 + i → breaks lbns p i ≡ false
    unfolding breaks
    breaks-not e = rw (eq-eqb (get_or lbns (p + i) 0) (get_or lbns p 0 + i) e)

    breaks-here : (get_or lbns (p + i) 0 ≡ get_or lbns p 0 + i → ⊥) → breaks lbns p i ≡ true
    unfolding breaks
    breaks-here ne = rw (ne_eqb (get_or lbns (p + i) 0) (get_or lbns p 0 + i) ne)

  module _ (l : p < length lbns) where
    -- The row has as many blocks as its length says, and a number of which that holds is its length.
    pub row_has : InRow lbns p (row_length lbns p)
    unfolding row_length
    row_has =
        let r : Is (breaks lbns p) 0 _ (row_length lbns p) = first-has (breaks lbns p) 0 _ in
        record {
          inside = omega (arith, r.high);
          each = λ i m. goes i (r.before i (omega arith) m);
          end = λ m. goes-not (row_length lbns p) (r.here (omega arith));
        }

    pub row_is : (t : ℕ) → InRow lbns p t → row_length lbns p ≡ t
    unfolding row_length
    row_is t r =
        first-is (breaks lbns p) 0 _ t (record {
          low = omega arith;
          high = omega (arith, r.inside);
          before = λ i a m. breaks-not i (r.each i m);
          here = λ m. breaks-here t (r.end (omega arith));
        })

    -- The block at the place is in its row.
    pub row-some : 0 < row_length lbns p
    row-some = go (ℕ_discrete (row_length lbns p) 0)
      where
        go : Dec (row_length lbns p ≡ 0) → 0 < row_length lbns p
        go (yes e) = absurd (row_has.end (omega arith) (rw (e, add-zero p, add-zero (get_or lbns p 0))))
        go (no ne) = omega arith

  -- What the blocks tell of the row.
  pub row-ahead : length lbns ≤ p → row_in lbns p ≡ Ahead (p - length lbns)
  unfolding row_in
  row-ahead h = rw (le-leb (length lbns) p h)

  pub row_open : (lbn long : ℕ) → p < length lbns → get_or lbns p 0 ≡ lbn → row_length lbns p ≡ long → p + long ≡ length lbns
      → row_in lbns p ≡ Open (record { 0 = lbn }) long
  unfolding row_in
  row_open lbn long l a b e = rw (lt-leb (length lbns) p l, b, eq-eqb long (length lbns - p) (omega arith), a)

  pub row-ended : (lbn long : ℕ) → p < length lbns → get_or lbns p 0 ≡ lbn → row_length lbns p ≡ long → p + long < length lbns
      → row_in lbns p ≡ Ended (record { 0 = lbn }) long
  unfolding row_in
  row-ended lbn long l a b m = rw (lt-leb (length lbns) p l, b, ne_eqb long (length lbns - p) (omega arith), a)

  -- What is known of the row at a place of the list by what the blocks tell of it.
  abbrev pub Told : Row → Type 0
  Told (Ahead k) = ⊥
  Told (Open lbn long) = (lbn.0 ≡ get_or lbns p 0) × (long ≡ row_length lbns p)
  Told (Ended lbn long) = (lbn.0 ≡ get_or lbns p 0) × (long ≡ row_length lbns p)

  pub told : p < length lbns → (r : Row) → r ≡ row_in lbns p → Told r
  told l r e = subst Told (sym e) (go (dec_lt (p + row_length lbns p) (length lbns)))
    where
      go : Dec (p + row_length lbns p < length lbns) → Told (row_in lbns p)
      go (yes m) = rw (row-ended (get_or lbns p 0) (row_length lbns p) l refl refl m) (refl, refl)
      go (no m) =
          rw (row_open (get_or lbns p 0) (row_length lbns p) l refl refl (omega (arith, (row_has l).inside))) (refl, refl)

-- No blocks.
pub row-none : (p : ℕ) → row_in [] p ≡ Ahead p
row-none p = row-ahead [] p (omega arith) ∙ ap Ahead (omega arith)

-- What c blocks more, from an LBN on, make of a row.
module _ (from c : ℕ) where
  carried-begins : (k : ℕ) → k < c → carried_on (Ahead k) from c ≡ Open (record { 0 = from + k }) (c - k)
  unfolding carried_on
  carried-begins k l = rw (lt-ltb k c l)

  carried-ahead : (k : ℕ) → c ≤ k → carried_on (Ahead k) from c ≡ Ahead (k - c)
  unfolding carried_on
  carried-ahead k h = rw (le-ltb k c h)

  carried-goes : (lbn : Lbn) (long : ℕ) → lbn.0 + long ≡ from → carried_on (Open lbn long) from c ≡ Open lbn (long + c)
  unfolding carried_on
  carried-goes lbn long e = rw (eq-eqb (lbn.0 + long) from e)

  carried-ends : (lbn : Lbn) (long : ℕ) → (lbn.0 + long ≡ from → ⊥) → carried_on (Open lbn long) from c ≡ Ended lbn long
  unfolding carried_on
  carried-ends lbn long ne = rw (ne_eqb (lbn.0 + long) from ne)

  carried-ended : (lbn : Lbn) (long : ℕ) → carried_on (Ended lbn long) from c ≡ Ended lbn long
  unfolding carried_on
  carried-ended lbn long = refl

-- A list of LBNs, and c blocks more, from an LBN on.
module _ (lbns : List ℕ) (p from c : ℕ) (some : 1 ≤ c) where
  abbrev all : List ℕ
  all = lbns ++ numbers_from from c

  all-length : length all ≡ length lbns + c
  all-length = length-append lbns (numbers_from from c) ∙ ap (λ (n : ℕ). length lbns + n) (numbers_from-length from c)

  -- A block is one of the list, or one of those after it.
  old : (i : ℕ) → i < length lbns → get_or all i 0 ≡ get_or lbns i 0
  old i l = get_or-append lbns (numbers_from from c) 0 i l

  new : (i k : ℕ) → i ≡ length lbns + k → k < c → get_or all i 0 ≡ from + k
  new i k e l = rw e (get_or-append-add lbns (numbers_from from c) k 0 ∙ numbers_from-at from c k l)

  -- The place lies past the list.
  module _ (past : length lbns ≤ p) where
    abbrev k : ℕ
    k = p - length lbns

    begins : k < c → carried_on (Ahead k) from c ≡ row_in all p
    begins l =
        let a : get_or all p 0 ≡ from + k = new p k (omega arith) l in
        let r : InRow all p (c - k) = record {
          inside = omega (arith, all-length);
          each = λ i m. new (p + i) (k + i) (omega arith) (omega arith) ∙ omega (arith, a);
          end = λ m. absurd (omega (arith, all-length));
        } in
        carried-begins from c k l
        ∙ sym (row_open all p (from + k) (c - k) (omega (arith, all-length)) a (row_is all p (omega (arith, all-length)) (c - k) r) (omega (arith, all-length)))

    ahead : c ≤ k → carried_on (Ahead k) from c ≡ row_in all p
    ahead h = carried-ahead from c k h ∙ ap Ahead (omega (arith, all-length)) ∙ sym (row-ahead all p (omega (arith, all-length)))

  -- It lies in the list.
  module _ (l : p < length lbns) where
    abbrev lbn : ℕ
    lbn = get_or lbns p 0

    abbrev long : ℕ
    long = row_length lbns p

    in_all : p < length all
    in_all = omega (arith, all-length)

    has : InRow lbns p long
    has = row_has lbns p l

    goes_on : p + long ≡ length lbns → lbn + long ≡ from → carried_on (Open (record { 0 = lbn }) long) from c ≡ row_in all p
    goes_on e q =
        carried-goes from c (record { 0 = lbn }) long q
        ∙ sym (row_open all p lbn (long + c) in_all (old p l) (row_is all p in_all (long + c) r) (omega (arith, all-length)))
      where
        at : (i : ℕ) → Dec (i < long) → i < long + c → get_or all (p + i) 0 ≡ get_or all p 0 + i
        at i (yes m) h = old (p + i) (omega arith) ∙ has.each i m ∙ ap (λ (n : ℕ). n + i) (sym (old p l))
        at i (no m) h = new (p + i) (i - long) (omega arith) (omega arith) ∙ omega (arith, old p l)

        r : InRow all p (long + c)
        r = record {
          inside = omega (arith, all-length);
          each = λ i m. at i (dec_lt i long) m;
          end = λ m. absurd (omega (arith, all-length));
        }

    -- The same blocks are in the row where it is not carried on.
    stays : (get_or all (p + long) 0 ≡ lbn + long → ⊥) → row_in all p ≡ Ended (record { 0 = lbn }) long
    stays ne =
        row-ended all p lbn long in_all (old p l) (row_is all p in_all long (record {
          inside = omega (arith, all-length, has.inside);
          each = λ i m. old (p + i) (omega (arith, has.inside)) ∙ has.each i m ∙ ap (λ (n : ℕ). n + i) (sym (old p l));
          end = λ m q. ne (q ∙ ap (λ (n : ℕ). n + long) (old p l));
        })) (omega (arith, all-length, has.inside))

    ends : p + long ≡ length lbns → (lbn + long ≡ from → ⊥) → carried_on (Open (record { 0 = lbn }) long) from c ≡ row_in all p
    ends e ne =
        carried-ends from c (record { 0 = lbn }) long ne
        ∙ sym (stays (λ q. ne (omega (arith, new (p + long) 0 (omega arith) (omega arith)))))

    ended : p + long < length lbns → carried_on (Ended (record { 0 = lbn }) long) from c ≡ row_in all p
    ended m =
        carried-ended from c (record { 0 = lbn }) long
        ∙ sym (stays (λ q. has.end m (sym (old (p + long) m) ∙ q)))

  -- Whatever the list tells of the row, the blocks more carry it on.
  pub row_more : carried_on (row_in lbns p) from c ≡ row_in all p
  row_more = go (dec_lt p (length lbns)) (dec_lt (p - length lbns) c) (dec_lt (p + row_length lbns p) (length lbns)) (ℕ_discrete (get_or lbns p 0 + row_length lbns p) from)
    where
      go : Dec (p < length lbns) → Dec (p - length lbns < c) → Dec (p + row_length lbns p < length lbns) → Dec (get_or lbns p 0 + row_length lbns p ≡ from)
          → carried_on (row_in lbns p) from c ≡ row_in all p
      go (no a) (yes b) d e = rw (row-ahead lbns p (omega arith)) (begins (omega arith) b)
      go (no a) (no b) d e = rw (row-ahead lbns p (omega arith)) (ahead (omega arith) (omega arith))
      go (yes a) b (yes d) e = rw (row-ended lbns p (lbn a) (long a) a refl refl d) (ended a d)
      go (yes a) b (no d) (yes e) =
          let q : p + row_length lbns p ≡ length lbns = omega (arith, (has a).inside) in
          rw (row_open lbns p (lbn a) (long a) a refl refl q) (goes_on a q e)
      go (yes a) b (no d) (no e) =
          let q : p + row_length lbns p ≡ length lbns = omega (arith, (has a).inside) in
          rw (row_open lbns p (lbn a) (long a) a refl refl q) (ends a q e)

-- The pointers of a header, from a byte on: none, and one more.
module _ (h : List ℕ) (at : ℕ) (lbns : List ℕ) (i : ℕ) where
  pub row-no-pointer : row_in (lbns ++ runs h at 0) i ≡ row_in lbns i
  row-no-pointer = ap (λ (r : List ℕ). row_in r i) (ap (λ (r : List ℕ). lbns ++ r) (runs_none h at) ∙ append-nil lbns)

  pub row-pointer : (p from c : ℕ) (row next : Row) → row ≡ row_in (lbns ++ runs h at p) i → from ≡ pointer_lbn h (at + 4 * p) → c ≡ pointer_count h (at + 4 * p)
      → next ≡ carried_on row from c → next ≡ row_in (lbns ++ runs h at (p + 1)) i
  unfolding run pointer_count
  row-pointer p from c row next e a b n =
      n ∙ rw (e, a, b) (row_more (lbns ++ runs h at p) i (pointer_lbn h (at + 4 * p)) (pointer_count h (at + 4 * p)) (omega arith))
      ∙ ap (λ (r : List ℕ). row_in r i) (append_assoc lbns (runs h at p) (run h (at + 4 * p)) ∙ ap (λ (r : List ℕ). lbns ++ r) (sym (runs-more h at p)))

-- A walk over the chain of the file whose first header has number n has come to header h, and knows the row from place i on of the blocks before it.
pub record Turn (image : List ℕ) (n i : ℕ) (h : List ℕ) (row : Row) : Type 0 where
  pub passed : ℕ
  pub walk : Walk image n h passed
  pub row-so-far : row ≡ row_in (take passed (file_blocks image n)) i

pub turn-start : (image : List ℕ) (n i : ℕ) (h : List ℕ) → Walk image n h 0 → Turn image n i h (Ahead i)
turn-start image n i h w = record { passed = 0; walk = w; row-so-far = sym (row-none i) }

module _ (image : List ℕ) (n i : ℕ) (h : List ℕ) (row : Row) (t : Turn image n i h row) where
  -- With the header's own blocks.
  pub turn-over : (next : Row) → Carries row h next → next ≡ row_in (take (t.passed + length (blocks_of h)) (file_blocks image n)) i
  turn-over next c =
      c (take t.passed (file_blocks image n)) i t.row-so-far
      ∙ ap (λ (r : List ℕ). row_in r i) (sym (walk-take image n h t.passed t.walk))

  -- The last header's are the file's last.
  pub turn_end : (next : Row) → Carries row h next → m_efnu h ≡ 0 → next ≡ row_in (file_blocks image n) i
  turn_end next c e =
      turn-over next c
      ∙ ap (λ (r : List ℕ). row_in r i) (take_all (t.passed + length (blocks_of h)) (file_blocks image n) (omega (arith, walk-end-length image n h t.passed t.walk e)))

  pub turn-next : (next : Row) → Carries row h next → (after : List ℕ) → NextHeader image h after → Turn image n i after next
  turn-next next c after r = record {
    passed = t.passed + length (blocks_of h);
    walk = walk-next image n h t.passed t.walk after r;
    row-so-far = turn-over next c;
  }
