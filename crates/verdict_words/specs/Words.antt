-- The answer words of the verdict.
use Rattle.answer.specs.Outcome.{Answer}
use Rattle.answer.specs.Words.{words_of}
use Rattle.std.specs.Prelude.{ℕ, List}
use Rattle.verdict.specs.declared.Counts.{Counts}
use Rattle.verdict.specs.Values.{counts_value}

-- 01, Answer numbers: DONE has as value "the verdict's four counts".
abbrev pub judge_words : Answer Counts → List ℕ
judge_words = words_of counts_value
