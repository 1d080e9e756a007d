-- The two text calls undo each other: a proper name's text is read back, and every accepted text is the text of its words.
use Rattle.answer.specs.Outcome.{Answer}
use Rattle.std.specs.Prelude.{Ok, Err}
use mathlib.Core.Path.{◌≡◌, refl, sym, ap, ◌∙◌}
use mathlib.Core.Bool.{Bool, true, false, cond, not, ◌&&◌, and-eq-true_iff}
use mathlib.Core.List.{List, ◌∷◌, ◌++◌}
use Prim.Native.Nat.{ℕ, ◌+◌, ◌*◌, ◌/◌, ◌%◌, ◌≤◌, ◌<◌}
use native.Mathlib.Numerals.{add-one}
use native.Mathlib.Omega.{arith}
use borrow.Author.Tests.{eqb-true, leb-true, le-leb, not-true}
use lib.Dec.{eqb, leb}
use lib.ListN.{length, get_or, take, drop}
use lib.Seq.{split_at, take-append_seam, drop-append-add, get_or-append_seam, length-take-le}
use Rattle.image.specs.Words.{byte_at}
use Rattle.image.proofs.WordLaws.{byte_inside}
use Rattle.answer.specs.declared.types.Name.{Name}
use Rattle.answer.specs.declared.refusal.Refusal.{Refusal}
use Rattle.answer.specs.declared.refusal.Refusal.TheVariants as refusal
use Rattle.radix50.specs.Table.{is_name_char, is_digit}
use Rattle.radix50.specs.Words.{codes}
use Rattle.names.specs.Names.{blank, filled, kept, name_codes, proper}
use Rattle.radix50.proofs.TableLaws.{code-char}
use Rattle.names.proofs.NameLaws.{filled-some, kept-most}
use Rattle.text.specs.Text.{decimal, text_of, name_text}
use Rattle.parse.specs.Parse.{span, Part, part_word, value_to, is_version, name_of, with_version, with_type, text_to_name_answer}
use Rattle.round_trip.specs.RoundTrip.{AcceptedText, RoundTrip}
use Rattle.text.proofs.TextLaws.{name-text-most}
use Rattle.parse.proofs.ParseLaws.{span_most, span_part, span-is}
use Rattle.round_trip.proofs.DigitLaws.{Version, version-is, decimal-version, decimal-value}
use Rattle.parse.proofs.PartLaws.{filled_keeps, codes-word, word-codes, part-codes, codes_from, filled-from, kept_from, some-from}

-- ---- a part, and the character that ends it

module _ (p : List ℕ) (x : ℕ) (s : List ℕ) (part : Part p) (ends : is_name_char x ≡ false) where
  before : take (span (p ++ (x ∷ s))) (p ++ (x ∷ s)) ≡ p
  before = rw (span-is p x s part ends) (take-append_seam p (x ∷ s))

  mark : byte_at (p ++ (x ∷ s)) (span (p ++ (x ∷ s))) ≡ x
  mark = rw (span-is p x s part ends) (get_or-append_seam p x s 0)

  behind : drop (span (p ++ (x ∷ s)) + 1) (p ++ (x ∷ s)) ≡ s
  behind = rw (span-is p x s part ends) (drop-append-add p (x ∷ s) 1)

no-dot : is_name_char 46 ≡ false
unfolding is_name_char is_digit
no-dot = refl

no-semicolon : is_name_char 59 ≡ false
unfolding is_name_char is_digit
no-semicolon = refl

-- ---- from a name to its text and back

name-step : (p s : List ℕ) → Part p → 1 ≤ length p → length p ≤ 9 → text_to_name_answer (p ++ (46 ∷ s)) ≡ with_type p s
unfolding text_to_name_answer
name-step p s part some few =
    rw (mark p 46 s part no-dot, before p 46 s part no-dot, behind p 46 s part no-dot, span-is p 46 s part no-dot, le-leb 1 (length p) some, le-leb (length p) 9 few)

type-step : (p y d : List ℕ) → Part y → length y ≤ 3 → with_type p (y ++ (59 ∷ d)) ≡ with_version p y d
unfolding with_type
type-step p y d part few =
    rw (mark y 59 d part no-semicolon, before y 59 d part no-semicolon, behind y 59 d part no-semicolon, span-is y 59 d part no-semicolon, le-leb (length y) 3 few)

version-step : (p y d : List ℕ) → is_version d ≡ true → with_version p y d ≡ Ok (name_of p y d)
unfolding with_version
version-step p y d t = rw t

-- The words of the characters that filled codes keep.
kept_word : (cs : List ℕ) → filled cs ≡ true → (i w : ℕ) → get_or cs (3 * i) 0 ≡ w / 1600 → get_or cs (3 * i + 1) 0 ≡ w / 40 % 40 → get_or cs (3 * i + 2) 0 ≡ w % 40 → part_word (kept cs) i ≡ w
unfolding part_word
kept_word cs t i w a b c =
    let k = (filled_keeps cs t).code in
    rw (k (3 * i), k (3 * i + 1), k (3 * i + 2), a, b, c) (word-codes w)

-- The parts of a proper name.
record Proper (n : Name) : Type 0 where
  some : blank (name_codes n) ≡ false
  name : filled (name_codes n) ≡ true
  typ : filled (codes n.typ) ≡ true
  least : 1 ≤ n.version
  most : n.version ≤ 32767

proper-is : (n : Name) → proper n ≡ true → Proper n
unfolding proper
proper-is n t =
    let a = not (blank (name_codes n)) in
    let b = filled (name_codes n) in
    let c = filled (codes n.typ) in
    let d = leb 1 n.version in
    let e = leb n.version 32767 in
    let t₄ = ((and-eq-true_iff (a && b && c && d) e).0 t).0 in
    let t₃ = ((and-eq-true_iff (a && b && c) d).0 t₄).0 in
    let t₂ = ((and-eq-true_iff (a && b) c).0 t₃).0 in
    record {
      some = not-true (blank (name_codes n)) ((and-eq-true_iff a b).0 t₂).0;
      name = ((and-eq-true_iff a b).0 t₂).1;
      typ = ((and-eq-true_iff (a && b) c).0 t₃).1;
      least = leb-true 1 n.version ((and-eq-true_iff (a && b && c) d).0 t₄).1;
      most = leb-true n.version 32767 ((and-eq-true_iff (a && b && c && d) e).0 t).1;
    }

name_back : (n : Name) → Proper n → name_of (kept (name_codes n)) (kept (codes n.typ)) (decimal n.version) ≡ n
unfolding name_of name_codes codes
name_back n r =
    rw (
      kept_word (name_codes n) r.name 0 n.name1 refl refl refl,
      kept_word (name_codes n) r.name 1 n.name2 refl refl refl,
      kept_word (name_codes n) r.name 2 n.name3 refl refl refl,
      kept_word (codes n.typ) r.typ 0 n.typ refl refl refl,
      decimal-value n.version r.most,
    )

long : (n : Name) → length (kept (name_codes n)) ≤ 9
unfolding name_codes codes
long n = kept-most (name_codes n)

long-type : (w : ℕ) → length (kept (codes w)) ≤ 3
unfolding codes
long-type w = kept-most (codes w)

back : (n : Name) → proper n ≡ true → text_to_name_answer (name_text n) ≡ Ok n
unfolding name_text text_of
back n t =
    let r = proper-is n t in
    let p = kept (name_codes n) in
    let y = kept (codes n.typ) in
    let d = decimal n.version in
    name-step p (y ++ (59 ∷ d)) (filled_keeps (name_codes n) r.name).part (filled-some (name_codes n) r.name r.some) (long n)
    ∙ type-step p y d (filled_keeps (codes n.typ) r.typ).part (long-type n.typ)
    ∙ version-step p y d (decimal-version n.version r.least r.most)
    ∙ ap Ok (name_back n r)

-- ---- from an accepted text to its name and back

record Chosen (b : Bool) (x : Answer Name) (n : Name) : Type 0 where
  test : b ≡ true
  rest : x ≡ Ok n

chosen : (b : Bool) (x : Answer Name) (r : Refusal) (n : Name) → cond b x (Err r) ≡ Ok n → Chosen b x n
chosen true x r n e = record { test = refl; rest = e }
chosen false x r n e = let z : ◌≡◌ {A = ℕ} 0 1 = cc in absurd (omega arith)

-- A text is its first part, the character that ends it, and the rest.
split : (t : List ℕ) (x : ℕ) → byte_at t (span t) ≡ x → 0 < x → take (span t) t ++ (x ∷ drop (span t + 1) t) ≡ t
split t x e h =
    rw (← e, add-one (span t)) (sym (split_at t (span t) 0 (byte_inside t (span t) x e h)))

name-codes : (p y d : List ℕ) → Part p → name_codes (name_of p y d) ≡ codes_from p 0 9
unfolding name_codes name_of codes_from
name-codes p y d part = rw (part-codes p part 0, part-codes p part 1, part-codes p part 2)

type-codes : (y : List ℕ) → Part y → codes (part_word y 0) ≡ codes_from y 0 3
unfolding codes_from
type-codes y part = part-codes y part 0

accepted-proper : (p y d : List ℕ) → Part p → Part y → 1 ≤ length p → Version d → proper (name_of p y d) ≡ true
unfolding proper name_of
accepted-proper p y d part typ some v =
    rw (
      name-codes p y d part,
      some-from p part 8 some,
      filled-from p part 0 9,
      type-codes y typ,
      filled-from y typ 0 3,
      le-leb 1 (value_to d (length d)) v.least,
      le-leb (value_to d (length d)) 32767 v.most,
    )

accepted-text : (p y d : List ℕ) → Part p → Part y → length p ≤ 9 → length y ≤ 3 → Version d → name_text (name_of p y d) ≡ p ++ (46 ∷ (y ++ (59 ∷ d)))
unfolding name_text text_of name_of
accepted-text p y d part typ few small v =
    rw (name-codes p y d part, kept_from p part 0 9 few, type-codes y typ, kept_from y typ 0 3 small, v.same)

forth : (t : List ℕ) (n : Name) → text_to_name_answer t ≡ Ok n → AcceptedText t n
unfolding text_to_name_answer with_type with_version
forth t n e =
    let s = drop (span t + 1) t in
    let p = take (span t) t in
    let y = take (span s) s in
    let d = drop (span s + 1) s in
    let dot = eqb (byte_at t (span t)) 46 in
    let semicolon = eqb (byte_at s (span s)) 59 in
    let name = chosen (leb 1 (span t) && leb (span t) 9 && dot) (with_type p s) refusal.Name n e in
    let typ = chosen (leb (span s) 3 && semicolon) (with_version p y d) refusal.Name n name.rest in
    let version = chosen (is_version d) (Ok (name_of p y d)) refusal.Name n typ.rest in
    let range = ((and-eq-true_iff (leb 1 (span t) && leb (span t) 9) dot).0 name.test).0 in
    let least = leb-true 1 (span t) ((and-eq-true_iff (leb 1 (span t)) (leb (span t) 9)).0 range).0 in
    let most = leb-true (span t) 9 ((and-eq-true_iff (leb 1 (span t)) (leb (span t) 9)).0 range).1 in
    let few = leb-true (span s) 3 ((and-eq-true_iff (leb (span s) 3) semicolon).0 typ.test).0 in
    let at = eqb-true (byte_at t (span t)) 46 ((and-eq-true_iff (leb 1 (span t) && leb (span t) 9) dot).0 name.test).1 in
    let at' = eqb-true (byte_at s (span s)) 59 ((and-eq-true_iff (leb (span s) 3) semicolon).0 typ.test).1 in
    let is : name_of p y d ≡ n = cc in
    let lp = length-take-le (span t) t (span_most t) in
    let ly = length-take-le (span s) s (span_most s) in
    rw (← is) (record {
      is-proper = accepted-proper p y d (span_part t) (span_part s) (omega arith) (version-is d version.test);
      is-text =
          accepted-text p y d (span_part t) (span_part s) (omega arith) (omega arith) (version-is d version.test)
          ∙ ap (λ (r : List ℕ). p ++ (46 ∷ r)) (split s 59 at' (omega arith))
          ∙ split t 46 at (omega arith);
    })

pub round_trip : RoundTrip
round_trip = record {
  table = code-char;
  word = λ a b c _ hb hc. codes-word a b c hb hc;
  word_back = word-codes;
  back = back;
  forth = forth;
  room = λ n _. omega (arith, name-text-most n);
}
