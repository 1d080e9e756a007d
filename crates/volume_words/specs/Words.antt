-- The answer words of the calls on a volume.
use Rattle.answer.specs.Outcome.{Answer}
use Rattle.answer.specs.Words.{words_of}
use Rattle.std.specs.Prelude.{ℕ, List}
use Rattle.volume_facts.specs.declared.types.Geometry.{Geometry}
use Rattle.volume_facts.specs.declared.types.Label.{Label}
use Rattle.volume_facts.specs.Values.{geometry_value, label_value}

-- Where the parts of a volume lie. No call of 01 has this value.
abbrev pub geometry_words : Answer Geometry → List ℕ
geometry_words = words_of geometry_value

-- The label of a volume. No call of 01 has this value.
abbrev pub label_words : Answer Label → List ℕ
label_words = words_of label_value
