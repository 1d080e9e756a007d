-- Each part is written right behind the one before.
use native.Mathlib.Omega.{arith}
use mathlib.Core.Path.{◌≡◌, refl, ap, ◌∙◌}
use mathlib.Core.List.{[], ◌∷◌, ◌++◌, append_assoc}
use Prim.Native.Nat.{◌+◌}
use lib.ListN.{length, length-set}
use Rattle.image.proofs.StoreLaws.{set-splice}
use Rattle.names.specs.Names.{kept}
use Rattle.text.specs.Text.{decimal, text_of}
use Rattle.text.proofs.TextLaws.{Wrote, wrote_none, wrote_on, decimal-most}
use Rattle.text.proofs.put_name.Goals as goal

pub put_decimal-requires : goal.put_decimal-requires
put_decimal-requires c =
    let type-long : length c.put_codes-2.new.text ≡ length c.args.text.now =
    c.put_codes-2.auto.text ∙ length-set c.put_codes.new.text c.args.long _ ∙ c.put_codes.auto.text in
    (omega (arith, c.from-v.ensures), c.digit_count-k.ensures, simp length-set (omega (arith, type-long, c.digit_count-k.ensures, decimal-most c.from-v.result)))

pub overflow_add-result : goal.overflow_add-result
overflow_add-result c =
    omega (arith, c.digit_count-k.ensures, decimal-most c.from-v.result)

pub returns : goal.returns
unfolding text_of
returns c =
    let name-part : Wrote c.args.text.now (kept c.args.name.now) c.put_codes.new.text c.args.long =
    wrote_on (kept c.args.name.now) (wrote_none c.args.text.now) c.put_codes.ensures (omega arith) in
    let type-part : Wrote c.args.text.now (kept c.args.name.now ++ (46 ∷ []) ++ kept c.args.typ.now) c.put_codes-2.new.text (c.args.long + 1 + c.args.short) =
    let dot = wrote_on (46 ∷ []) name-part (set-splice c.put_codes.new.text c.args.long 46 (omega (arith, c.put_codes.auto.text))) refl in
    wrote_on (kept c.args.typ.now) dot c.put_codes-2.ensures (omega arith) in
    let type-long : length c.put_codes-2.new.text ≡ length c.args.text.now =
    c.put_codes-2.auto.text ∙ length-set c.put_codes.new.text c.args.long _ ∙ c.put_codes.auto.text in
    let semicolon = wrote_on (59 ∷ []) type-part (set-splice c.put_codes-2.new.text (c.args.long + 1 + c.args.short) 59 (omega (arith, type-long))) refl in
    let all = rw c.from-v.ensures at (wrote_on (decimal c.from-v.result) semicolon c.put_decimal.ensures (ap (λ n. c.args.long + 1 + c.args.short + 1 + n) c.digit_count-k.ensures)) in
    record { value = simp append_assoc at all.place; text_after = simp append_assoc at all.text }
