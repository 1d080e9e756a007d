-- The answer words of the calls that read a file.
use Rattle.answer.specs.declared.types.Lbn.{Lbn}
use Rattle.answer.specs.Outcome.{Answer}
use Rattle.answer.specs.Words.{words_of}
use Rattle.file_facts.specs.declared.types.Attributes.{Attributes}
use Rattle.file_facts.specs.Values.{attributes_value}
use Rattle.std.specs.Prelude.{ℕ, ◌*◌, List, [], ◌∷◌}

-- 01, Names and directories: "the image's own 512 bytes, not a copy": where they begin, and how many they are.
abbrev pub block_value : Lbn → List ℕ
block_value lbn = 512 * lbn.0 ∷ 512 ∷ []

-- 01, Answer numbers: DONE has as value the "block".
abbrev pub block_words : Answer Lbn → List ℕ
block_words = words_of block_value

-- What a file says of itself. No call of 01 has this value.
abbrev pub attributes_words : Answer Attributes → List ℕ
attributes_words = words_of attributes_value
