-- Rows of blocks: blocks one after the other in a file that lie one after the other on the volume.
use Rattle.std.specs.Prelude.{◌≡◌, Bool, cond, not, List, ◌++◌, ℕ, ◌+◌, ◌-◌, eqb, leb, ltb, length, get_or}
use Rattle.lists.specs.First.{first}
use Rattle.pointers.specs.Pointers.{blocks_of}
use Rattle.rows.specs.declared.Row.{Row}
use Rattle.rows.specs.declared.Row.TheVariants as rows

-- Of a list of LBNs, the block i places after place p does not lie i blocks after the block at p.
unfoldable pub breaks : List ℕ → ℕ → ℕ → Bool
breaks lbns p i = not (eqb (get_or lbns (p + i) 0) (get_or lbns p 0 + i))

-- How many blocks of a list of LBNs, from place p on, lie one after the other: up to the first that does not, or to the last block.
unfoldable pub row_length : List ℕ → ℕ → ℕ
row_length lbns p = first (breaks lbns p) 0 (length lbns - p)

-- What the blocks of a list of LBNs tell of the row from place p on: how far ahead it begins, that it goes on to their end, or that it ends before.
unfoldable pub row_in : List ℕ → ℕ → Row
row_in lbns p =
    let long = row_length lbns p in
    cond (leb (length lbns) p)
    (rows.Ahead (p - length lbns))
    (cond (eqb long (length lbns - p)) (rows.Open (record { 0 = get_or lbns p 0 }) long) (rows.Ended (record { 0 = get_or lbns p 0 }) long))

-- What a row that is known up to some blocks comes to with c blocks more, from an LBN on.
unfoldable pub carried_on : Row → ℕ → ℕ → Row
carried_on (rows.Ahead k) from c = cond (ltb k c) (rows.Open (record { 0 = from + k }) (c - k)) (rows.Ahead (k - c))
carried_on (rows.Open lbn long) from c = cond (eqb (lbn.0 + long) from) (rows.Open lbn (long + c)) (rows.Ended lbn long)
carried_on (rows.Ended lbn long) from c = rows.Ended lbn long

-- A row of some blocks, of any place, carried on over those of a header.
abbrev pub Carries : Row → List ℕ → Row → Type 0
Carries row h carried = (lbns : List ℕ) (p : ℕ) → row ≡ row_in lbns p → carried ≡ row_in (lbns ++ blocks_of h) p
