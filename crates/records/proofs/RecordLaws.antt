-- Laws of a record: its words are words of the blocks.
use mathlib.Core.Path.{◌≡◌, sym, ap, ◌∙◌}
use mathlib.Core.Bool.{Bool, true, false, not, ◌&&◌, and-false, and_comm}
use mathlib.Core.List.{List}
use Prim.Native.Nat.{ℕ, ◌+◌, ◌*◌, ◌/◌, ◌%◌, ◌≤◌, ◌<◌}
use native.Mathlib.Nat.{add-zero}
use native.Mathlib.Omega.{arith}
use lib.Dec.{eqb}
use lib.ListN.{length, drop, length-take, length-drop}
use lib.Seq.{ext_get_or, get_or-take, get_or-drop}
use Rattle.image.specs.Words.{byte_at, word_at}
use Rattle.image.specs.Blocks.{block}
use Rattle.image.proofs.WordLaws.{word_same}
use Rattle.image.proofs.BlockLaws.{byte-block}
use Rattle.answer.specs.declared.types.Name.{Name}
use Rattle.records.specs.Records.{record_in, entry_of, is_empty, same_name, is_wanted, wanted_in}
use Rattle.records.specs.declared.Wanted.TheVariants.{Any, Named}

-- Of six tests, the last and the second are made first.
last-first : (a b c d e f : Bool) → (a && (b && c && d && e && f)) ≡ (f && (b && (a && c && d && e)))
last-first a false c d e f = and-false a ∙ sym (and-false f)
last-first false true c d e f = sym (and-false f)
last-first true true c d e f = and_comm (c && d && e) f

module _ (b : List ℕ) (i : ℕ) where
  record-most : length (record_in b i) ≤ 16
  unfolding record_in
  record-most = simp length-take (omega arith)

  record-byte : (o : ℕ) → o < 16 → byte_at (record_in b i) o ≡ byte_at b (16 * i + o)
  unfolding record_in
  record-byte o h = get_or-take 16 (drop (16 * i) b) o 0 h ∙ get_or-drop (16 * i) b o 0

  pub record-word : (o : ℕ) → o + 1 < 16 → word_at (record_in b i) o ≡ word_at b (16 * i + o)
  record-word o h = word_same (record_in b i) b o (16 * i + o) (record-byte o (omega arith)) (record-byte (o + 1) h ∙ ap (byte_at b) (omega arith))

  number_word : word_at (record_in b i) 0 ≡ word_at b (16 * i)
  number_word = record-word 0 (omega arith) ∙ ap (word_at b) (add-zero (16 * i))

  pub entry_in : entry_of (record_in b i) ≡ record {
    id = record { number = word_at b (16 * i); sequence = word_at b (16 * i + 2); volume = word_at b (16 * i + 4) };
    name = record { name1 = word_at b (16 * i + 6); name2 = word_at b (16 * i + 8); name3 = word_at b (16 * i + 10); typ = word_at b (16 * i + 12); version = word_at b (16 * i + 14) };
  }
  unfolding entry_of
  entry_in =
      rw (number_word, record-word 2 (omega arith), record-word 4 (omega arith), record-word 6 (omega arith), record-word 8 (omega arith), record-word 10 (omega arith), record-word 12 (omega arith), record-word 14 (omega arith))

  -- Not empty.
  pub filled_in : wanted_in b Any i ≡ not (eqb (word_at b (16 * i)) 0)
  unfolding wanted_in is_wanted is_empty
  filled_in = rw entry_in

  -- Whether the word at a place of the record is x.
  abbrev pub has : ℕ → ℕ → Bool
  has o x = eqb (word_at b (16 * i + o)) x

  -- Not empty, and of this name: the version and the first word of the name are tested first.
  pub named_in : (n : Name) → wanted_in b (Named n) i ≡
      (has 14 n.version && (has 6 n.name1 && (not (eqb (word_at b (16 * i)) 0) && has 8 n.name2 && has 10 n.name3 && has 12 n.typ)))
  unfolding wanted_in is_wanted is_empty same_name
  named_in n =
      rw entry_in
      (last-first (not (eqb (word_at b (16 * i)) 0)) (has 6 n.name1) (has 8 n.name2) (has 10 n.name3) (has 12 n.typ) (has 14 n.version))

-- A block holds 32 records: record i lies in block i / 32.
pub record-block : (b : List ℕ) (i : ℕ) → record_in (block b (i / 32)) (i % 32) ≡ record_in b i
unfolding record_in block
record-block b i =
    ext_get_or 0 (record_in (block b (i / 32)) (i % 32)) (record_in b i)
    (simp (length-take, length-drop) (omega arith))
    (λ j l.
    let small : j < 16 = omega (arith, record-most (block b (i / 32)) (i % 32)) in
    record-byte (block b (i / 32)) (i % 32) j small
    ∙ byte-block b (i / 32) (16 * (i % 32) + j) (omega arith)
    ∙ ap (byte_at b) (omega arith)
    ∙ sym (record-byte b i j small))
