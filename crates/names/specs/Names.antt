-- Proper names, a term of 01.
use Rattle.std.specs.Prelude.{Bool, true, cond, not, ◌&&◌, List, [], ◌∷◌, ◌++◌, ℕ, eqb, leb}
use Rattle.answer.specs.declared.types.Name.{Name}
use Rattle.radix50.specs.Table.{char_of, is_name_char}
use Rattle.radix50.specs.Words.{codes}

-- 01, Names and directories: "blanks only"; "code 0 is blank".
unfoldable pub blank : List ℕ → Bool
blank [] = true
blank (c ∷ cs) = eqb c 0 && blank cs

-- 01, Names and directories: "capitals or digits, then blanks only".
unfoldable pub filled : List ℕ → Bool
filled [] = true
filled (c ∷ cs) = cond (eqb c 0) (blank cs) (is_name_char (char_of c) && filled cs)

-- 01, Names and directories: NAME and TYP are "capitals or digits", without the blanks of the words.
unfoldable pub kept : List ℕ → List ℕ
kept [] = []
kept (c ∷ cs) = cond (eqb c 0) (kept cs) (char_of c ∷ kept cs)

-- 01, Names and directories: "three words". Their nine codes.
unfoldable pub name_codes : Name → List ℕ
name_codes n = codes n.name1 ++ (codes n.name2 ++ codes n.name3)

-- 01, Names and directories: "A proper name (house): three words with 1 to 9 capitals or digits, then blanks only;
-- a type word with 0 to 3 likewise; version 1 to 32,767."
unfoldable pub proper : Name → Bool
proper n =
    not (blank (name_codes n)) && filled (name_codes n) && filled (codes n.typ) && leb 1 n.version && leb n.version 32767
