-- The answer words of the calls on a directory.
use Rattle.answer.specs.Outcome.{Answer}
use Rattle.answer.specs.Words.{words_of}
use Rattle.look_up.specs.declared.Step.{Step}
use Rattle.look_up.specs.Values.{step_value}
use Rattle.std.specs.Prelude.{ℕ, List}

-- 01, Answer numbers: DONE has as value the "record".
abbrev pub next_record_words : Answer Step → List ℕ
next_record_words = words_of step_value
