-- The record's words are words of the block; where the version or the first word of the name differs, the rest is not looked at.
use mathlib.Core.Path.{sym, ◌∙◌}
use borrow.Author.Tests.{eqb-true, eq-eqb}
use Rattle.records.proofs.RecordLaws.{named_in}
use Rattle.record_search.proofs.is_named.Goals.{then-word_at-name, else-word_at-name}
use Rattle.record_search.proofs.is_named.Goals as goal

pub returns-then-word_at-name-2 : goal.returns-then-word_at-name-2
returns-then-word_at-name-2 c =
    let a = c.args in
    elim c.if-word_at-name.branch [
      | then-word_at-name w ↦
          rw (named_in a.b.now a.i a.name, ← c.word_at.ensures, ← w.word_at-then-word_at-name.ensures, eq-eqb _ _ w.if-word_at-name.true, sym w.value-is ∙ c.if-word_at-name-2.true, c.word_at-then-word_at-name-2.ensures, c.word_at-then-word_at-name-2-2.ensures, c.word_at-then-word_at-name-2-3.ensures, c.word_at-then-word_at-name-2-4.ensures)
      | else-word_at-name w ↦ absurd (w.if-word_at-name.false (eqb-true _ _ (sym w.value-is ∙ c.if-word_at-name-2.true)))
    ]
