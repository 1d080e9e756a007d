-- The volume is opened first.
use Rattle.std.proofs.Common.{rules, ◌≡◌, Err}
use mathlib.Core.Path.{◌∙◌}
use Rattle.header_facts.proofs.HeaderLaws.{find-closed, pointer-refused}
use Rattle.header_facts.proofs.pointer.Goals as goal

pub returns-in_err-v : goal.returns-in_err-v
returns-in_err-v c =
    let e : c.from_residual.result ≡ Err c.in_err-v.field-0.0 = search rules in
    e ∙ pointer-refused _ _ _ _ (find-closed _ _ _ c.in_err-v.ensures)
