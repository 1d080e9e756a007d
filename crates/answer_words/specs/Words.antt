-- The answer words of the shapes that several calls share.
use Rattle.answer.specs.declared.types.Lbn.{Lbn}
use Rattle.answer.specs.declared.types.FileId.{FileId}
use Rattle.answer.specs.declared.types.Run.{Run}
use Rattle.answer.specs.Outcome.{Outcome, Answer}
use Rattle.answer.specs.Values.{lbn_value, id_value, run_value, count_value, bare_value}
use Rattle.answer.specs.Words.{words_of}
use Rattle.std.specs.Prelude.{ℕ, List}

-- 01, Answer numbers: DONE has as value "the home LBN (open volume)", the "LBN (map)", the "first new LBN (extend)".
abbrev pub lbn_words : Answer Lbn → List ℕ
lbn_words = words_of lbn_value

-- 01, Answer numbers: DONE has as value the "ID (look-up, create)".
abbrev pub id_words : Answer FileId → List ℕ
id_words = words_of id_value

-- The first LBN, and how many blocks there are. No call of 01 has this value.
abbrev pub run_words : Answer Run → List ℕ
run_words = words_of run_value

-- 01, Answer numbers: DONE has as value the "block count (open file)", the "text length".
abbrev pub count_words : Answer ℕ → List ℕ
count_words = words_of count_value

-- 01, Answer numbers: DONE has as value "0 for delete".
abbrev pub bare_words : Outcome → List ℕ
bare_words = words_of bare_value
