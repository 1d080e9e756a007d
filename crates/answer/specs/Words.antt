-- The twelve words that an exported call writes: number, place, then ten value words.
use Rattle.std.specs.Prelude.{ℕ, List, [], ◌∷◌, get_or, Ok, Err}
use Rattle.answer.specs.declared.refusal.Refusal.{Refusal}
use Rattle.answer.specs.Outcome.{Answer}
use Rattle.answer.specs.Refusal.{number_of, place_of, value_of}

-- The value words of an answer. The value is given by its own words, ten at most; a value word past their end is 0.
abbrev pub value_words : List ℕ → List ℕ
value_words value =
    get_or value 0 0
    ∷ get_or value 1 0
    ∷ get_or value 2 0
    ∷ get_or value 3 0
    ∷ get_or value 4 0
    ∷ get_or value 5 0
    ∷ get_or value 6 0
    ∷ get_or value 7 0
    ∷ get_or value 8 0
    ∷ get_or value 9 0
    ∷ []

-- 01, Answer numbers: "An answer is a number, a place and a value".
abbrev pub answer_words : ℕ → ℕ → List ℕ → List ℕ
answer_words number place value = number ∷ place ∷ value_words value

-- A refusal. 01, Answer numbers: "An answer is a number, a place and a value."
abbrev pub refused_words : Refusal → List ℕ
refused_words r = answer_words (number_of r) (place_of r) (value_of r ∷ [])

-- DONE with a value. 01, Answer numbers: its number is 0, and "DONE has place 0".
abbrev pub done_words : List ℕ → List ℕ
done_words value = answer_words 0 0 value

-- The words of an answer, where DONE has as value words those that `words` tells of its value.
abbrev pub words_of : {T : Type 0} → (T → List ℕ) → Answer T → List ℕ
words_of words (Ok value) = done_words (words value)
words_of words (Err r) = refused_words r
