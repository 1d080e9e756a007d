-- The answer words of the call that turns text into a name.
use Rattle.answer.specs.declared.types.Name.{Name}
use Rattle.answer.specs.Outcome.{Answer}
use Rattle.answer.specs.Values.{name_value}
use Rattle.answer.specs.Words.{words_of}
use Rattle.std.specs.Prelude.{ℕ, List}

-- 01, Answer numbers: DONE has as value the "name words".
abbrev pub text_to_name_words : Answer Name → List ℕ
text_to_name_words = words_of name_value
