-- After i turns the first i characters that the codes keep are written.
use native.Mathlib.Omega.{arith}
use mathlib.Core.Path.{◌≡◌, sym, ap, ◌∙◌}
use native.Mathlib.Numerals.{add-one}
use lib.ListN.{length, length-set}
use lib.Seq.{paste, paste-suc}
use Rattle.image.proofs.StoreLaws.{paste-splice}
use Rattle.names.specs.Names.{kept}
use Rattle.names.proofs.NameLaws.{kept-most}
use Rattle.parse.proofs.PartLaws.{kept-char}
use Rattle.text.proofs.put_codes.Goals as goal

pub bounds-cs-i : goal.bounds-cs-i
bounds-cs-i c = omega (arith, kept-most c.args.cs.now)

pub char_of-requires : goal.char_of-requires
char_of-requires c =
    (kept-char c.args.cs.now c.requires.0 c.loop-i.i (omega arith)).0

pub loop-i-preserved : goal.loop-i-preserved
loop-i-preserved c =
    let text = c.args.text.now in
    let at = c.args.at in
    let cs = c.args.cs.now in
    let char = c.char_of.ensures ∙ (kept-char cs c.requires.0 c.loop-i.i (omega arith)).1 in (
      simp length-set c.loop-i.invariant.0,
      rw (char, c.loop-i.invariant.1) (paste-suc text at (kept cs) c.loop-i.i 0 (omega arith) (omega arith) ∙ ap (paste text at (kept cs)) (sym (add-one c.loop-i.i))),
    )

pub returns : goal.returns
returns c =
    let a = c.args in
    let e : c.loop-i.i ≡ length (kept a.cs.now) = omega arith in
    c.loop-i.invariant.1 ∙ ap (paste a.text.now a.at (kept a.cs.now)) e ∙ paste-splice a.text.now a.at (kept a.cs.now)
