-- The answer words of the calls on the header of a file number.
use Rattle.answer.specs.Outcome.{Answer}
use Rattle.answer.specs.Words.{words_of}
use Rattle.std.specs.Prelude.{ℕ, List}
use Rattle.header_facts.specs.declared.types.Header.{Header}
use Rattle.header_facts.specs.Values.{header_value}

-- What a header says. No call of 01 has this value.
abbrev pub header_words : Answer Header → List ℕ
header_words = words_of header_value
