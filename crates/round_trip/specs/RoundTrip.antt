-- That the conversions undo each other: codes and characters, words and codes, names and texts.
use Rattle.std.specs.Prelude.{◌≡◌, true, cond, List, [], ◌∷◌, ℕ, ◌/◌, ◌%◌, ◌≤◌, ◌<◌, eqb, length, Ok}
use Rattle.answer.specs.declared.types.Name.{Name}
use Rattle.radix50.specs.Table.{char_of, nothing, code_of}
use Rattle.radix50.specs.Words.{word_of, codes}
use Rattle.names.specs.Names.{proper}
use Rattle.text.specs.Text.{name_text}
use Rattle.parse.specs.Parse.{text_to_name_answer}

-- 01, Names and directories: "Text: `NAME.TYP;V`" of "a proper name". What is known of an accepted text: its words are a proper name, and it is their text.
pub record AcceptedText (t : List ℕ) (n : Name) : Type 0 where
  pub is-proper : proper n ≡ true
  pub is-text : name_text n ≡ t

-- No sentence of 01 claims this: it says that the two halves of the section on names, words to text and text to words, are one rule.
pub record RoundTrip : Type 0 where
  -- the character of each code has that code, and the code that is nothing has none
  pub table : (c : ℕ) → c < 40 → code_of (char_of c) ≡ cond (eqb c nothing) 40 c
  -- the codes of (a·40+b)·40+c are a, b and c
  pub word : (a b c : ℕ) → a < 40 → b < 40 → c < 40 → codes (word_of a b c) ≡ a ∷ b ∷ c ∷ []
  -- a word is that of its codes
  pub word_back : (w : ℕ) → word_of (w / 1600) (w / 40 % 40) (w % 40) ≡ w
  -- the text of a proper name converts back to its words
  pub back : (n : Name) → proper n ≡ true → text_to_name_answer (name_text n) ≡ Ok n
  -- every accepted text is the text of its words
  pub forth : (t : List ℕ) (n : Name) → text_to_name_answer t ≡ Ok n → AcceptedText t n
  -- 01, Names and directories: "room for 19 bytes"
  pub room : (n : Name) → proper n ≡ true → length (name_text n) ≤ 19
