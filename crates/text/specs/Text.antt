-- The text of a name.
-- 01, Names and directories: "Text: `NAME.TYP;V`, the dot always there, V decimal without leading zero, nothing after it; room for 19 bytes."
-- Of the characters, 46 is the dot, 59 the semicolon and 48 the digit 0.
use Rattle.answer.specs.Outcome.{Answer}
use Rattle.std.specs.Prelude.{cond, List, [], ◌∷◌, ◌++◌, ℕ, zero, suc, ◌+◌, ◌/◌, ◌%◌, ltb, length, Ok, Err}
use Rattle.image.specs.Stores.{splice}
use Rattle.answer.specs.declared.types.Name.{Name}
use Rattle.answer.specs.declared.refusal.Refusal.TheVariants as refusal
use Rattle.radix50.specs.Words.{codes}
use Rattle.names.specs.Names.{kept, name_codes, proper}

-- 01, Names and directories: "decimal without leading zero". The digits of a number that has at most k.
unfoldable pub digits : ℕ → ℕ → List ℕ
digits zero v = []
digits (suc k) v =
    let high = digits k (v / 10) in
    cond (ltb v 10) ((48 + v) ∷ []) (high ++ ((48 + v % 10) ∷ []))

-- 01, Names and directories: "V decimal without leading zero". A version, at most 32,767, has at most five digits.
unfoldable pub decimal : ℕ → List ℕ
decimal v = digits 5 v

-- 01, Names and directories: "`NAME.TYP;V`", from the codes of the name, the codes of the type, and the version.
unfoldable pub text_of : List ℕ → List ℕ → ℕ → List ℕ
text_of name typ version = kept name ++ (46 ∷ (kept typ ++ (59 ∷ decimal version)))

-- 01, Names and directories: "`NAME.TYP;V`", from the five words of a name.
unfoldable pub name_text : Name → List ℕ
name_text n = text_of (name_codes n) (codes n.typ) n.version

-- The answer of the call from words to text, for a buffer of so many bytes. 01, Answer numbers: DONE has as value the "text length"; "Text calls: 28,
-- then 14."
unfoldable pub name_to_text_answer : Name → ℕ → Answer ℕ
name_to_text_answer n room =
    cond (ltb room 19) (Err refusal.Room)
    (cond (proper n) (Ok (length (name_text n))) (Err refusal.Name))

-- The buffer after that call. 01, Answer numbers: "Output buffers are unchanged" by a refusal; "Bytes after what is written stay."
unfoldable pub text_after : Name → List ℕ → List ℕ
text_after n text =
    cond (ltb (length text) 19) text
    (cond (proper n) (splice text 0 (name_text n)) text)
