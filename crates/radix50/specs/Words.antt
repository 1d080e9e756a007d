-- Radix-50 words: three codes in a word.
use Rattle.answer.specs.Outcome.{Answer}
use Rattle.std.specs.Prelude.{cond, List, [], ◌∷◌, ℕ, ◌+◌, ◌*◌, ◌/◌, ◌%◌, ltb, Ok, Err}
use Rattle.answer.specs.declared.refusal.Refusal.TheVariants as refusal
use Rattle.radix50.specs.Table.{char_of}

-- 01, Names and directories: "a word is (a·40+b)·40+c, below 64,000".
unfoldable pub word_of : ℕ → ℕ → ℕ → ℕ
word_of a b c = (a * 40 + b) * 40 + c

-- 01, Names and directories: "a word is (a·40+b)·40+c", read the other way: the codes a, b, c of a word. In a word of 64,000 or more the first is 40, which is no code.
unfoldable pub codes : ℕ → List ℕ
codes w = w / 1600 ∷ w / 40 % 40 ∷ w % 40 ∷ []

-- The three characters of a word. 01, Volume V: "63,999 is `999`", "64,000 refused".
unfoldable pub characters_of : ℕ → Answer (List ℕ)
characters_of w = cond (ltb w 64000) (Ok (char_of (w / 1600) ∷ char_of (w / 40 % 40) ∷ char_of (w % 40) ∷ [])) (Err refusal.Name)
