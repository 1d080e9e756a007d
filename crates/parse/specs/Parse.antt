-- The name of a text.
-- 01, Names and directories: "Text: `NAME.TYP;V`, the dot always there, V decimal without leading zero, nothing after it; room for 19 bytes."
-- Of the characters, 46 is the dot, 59 the semicolon, 48 the digit 0 and 32 the blank.
use Rattle.answer.specs.Outcome.{Answer}
use Rattle.std.specs.Prelude.{◌≡◌, Bool, true, cond, not, ◌&&◌, List, ℕ, zero, suc, ◌+◌, ◌*◌, ◌-◌, ◌<◌, eqb, leb, length, get_or, take, drop, Ok, Err}
use Rattle.image.specs.Words.{byte_at}
use Rattle.lists.specs.First.{first}
use Rattle.answer.specs.declared.types.Name.{Name}
use Rattle.answer.specs.declared.refusal.Refusal.TheVariants as refusal
use Rattle.radix50.specs.Table.{code_of, is_digit, is_name_char}
use Rattle.radix50.specs.Words.{word_of}

-- 01, Names and directories: "capitals or digits". Whether the character at a place is neither, and so ends NAME or TYP.
unfoldable pub ends_at : List ℕ → ℕ → Bool
ends_at t i = not (is_name_char (byte_at t i))

-- 01, Names and directories: "1 to 9 capitals or digits", "0 to 3 likewise". How many a text begins with.
unfoldable pub span : List ℕ → ℕ
span t = first (ends_at t) 0 (length t)

-- 01, Names and directories: "capitals or digits". A part of a text that has these only: NAME or TYP.
pub record Part (p : List ℕ) : Type 0 where
  pub each : (j : ℕ) → j < length p → is_name_char (byte_at p j) ≡ true

-- 01, Names and directories: "then blanks only". The code of character j of a part; past the part's end there are blanks.
unfoldable pub code_at : List ℕ → ℕ → ℕ
code_at p j = code_of (get_or p j 32)

-- 01, Names and directories: "three words", "a type word". Word i of a part, from 0.
unfoldable pub part_word : List ℕ → ℕ → ℕ
part_word p i = word_of (code_at p (3 * i)) (code_at p (3 * i + 1)) (code_at p (3 * i + 2))

-- 01, Names and directories: "V decimal". The number that the first k digits of a text write.
unfoldable pub value_to : List ℕ → ℕ → ℕ
value_to d zero = 0
value_to d (suc k) = 10 * value_to d k + (byte_at d k - 48)

-- 01, Names and directories: "V decimal". Whether the first k characters of a text are digits.
unfoldable pub digits_to : List ℕ → ℕ → Bool
digits_to d zero = true
digits_to d (suc k) = digits_to d k && is_digit (byte_at d k)

-- 01, Names and directories: "V decimal without leading zero, nothing after it"; "version 1 to 32,767", so one to five digits.
unfoldable pub is_version : List ℕ → Bool
is_version d =
    leb 1 (length d) && leb (length d) 5 && digits_to d (length d) && not (eqb (byte_at d 0) 48) && leb (value_to d (length d)) 32767

-- 01, Names and directories: "three words", "a type word", "version": the name that NAME, TYP and V write.
unfoldable pub name_of : List ℕ → List ℕ → List ℕ → Name
name_of p y d = record {
  name1 = part_word p 0;
  name2 = part_word p 1;
  name3 = part_word p 2;
  typ = part_word y 0;
  version = value_to d (length d);
}

-- 01, Names and directories: "`NAME.TYP;V`". NAME and TYP, p and y, are read, and d is left: V.
unfoldable pub with_version : List ℕ → List ℕ → List ℕ → Answer Name
with_version p y d = cond (is_version d) (Ok (name_of p y d)) (Err refusal.Name)

-- 01, Names and directories: "`NAME.TYP;V`", a type "with 0 to 3" characters. NAME, p, is read, and s is left: TYP, a semicolon, V.
unfoldable pub with_type : List ℕ → List ℕ → Answer Name
with_type p s =
    cond (leb (span s) 3 && eqb (byte_at s (span s)) 59)
    (with_version p (take (span s) s) (drop (span s + 1) s))
    (Err refusal.Name)

-- 01, Names and directories: "1 to 9 capitals or digits", "the dot always there". The answer of the call from text to words.
-- 01, Answer numbers: NAME where "not proper, text or words".
unfoldable pub text_to_name_answer : List ℕ → Answer Name
text_to_name_answer t =
    cond (leb 1 (span t) && leb (span t) 9 && eqb (byte_at t (span t)) 46)
    (with_type (take (span t) t) (drop (span t + 1) t))
    (Err refusal.Name)
