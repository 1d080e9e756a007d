-- The Radix-50 characters and their codes.
use Rattle.std.specs.Prelude.{Bool, cond, not, ◌&&◌, ◌||◌, ℕ, ◌+◌, eqb, leb}
use Rattle.lists.specs.First.{first}

-- 01, Names and directories: "code 0 is blank, codes 1 to 26 are A to Z, 27 `$`, 28 `.`, 29 nothing, 30 to 39 are 0 to 9".
-- The character of a code, as its byte; 0 for the code 29 and for every number that is no code.
unfoldable pub char_of : ℕ → ℕ
char_of c =
    cond (eqb c 0) 32
    (cond (leb 1 c && leb c 26) (c + 64)
    (cond (eqb c 27) 36
    (cond (eqb c 28) 46
    (cond (leb 30 c && leb c 39) (c + 18) 0))))

-- 01, Names and directories: "29 nothing": the code that has no character.
abbrev pub nothing : ℕ
nothing = 29

-- 01, Names and directories: "codes 1 to 26 are A to Z" and so on, read the other way. Whether a code has this character.
unfoldable pub has_char : ℕ → ℕ → Bool
has_char x c = eqb (char_of c) x && not (eqb c nothing)

-- 01, Names and directories: the same, as the inverse of the table: the code that has this character; 40, which is no code, where none has it.
unfoldable pub code_of : ℕ → ℕ
code_of x = first (has_char x) 0 40

-- 01, Names and directories: "30 to 39 are 0 to 9". A digit, as a character: 48 is `0` and 57 is `9`.
unfoldable pub is_digit : ℕ → Bool
is_digit x = leb 48 x && leb x 57

-- 01, Names and directories: "capitals or digits", what a name or a type may have. 65 is `A` and 90 is `Z`.
unfoldable pub is_name_char : ℕ → Bool
is_name_char x = (leb 65 x && leb x 90) || is_digit x
