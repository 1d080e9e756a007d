-- The slot that was found, and the tests of the header in it, are those of the definition.
use Rattle.std.specs.Prelude.{None}
use mathlib.Core.Path.{◌≡◌, sym, ◌∙◌}
use native.Mathlib.Omega.{arith}
use Rattle.header.specs.Fields.{m_efnu}
use Rattle.chains.proofs.LinkLaws.{Found, Lies, link-is-end, link-is-to, link-is-bad, links-none, slot-found, slot-lies, lies-tests}
use Rattle.chains.proofs.follow.Goals as goal

pub returns-then-n-eq0 : goal.returns-then-n-eq0
returns-then-n-eq0 c = sym (link-is-end _ _ (omega arith))

pub is_next-requires : goal.is_next-requires
is_next-requires c =
    let lies : Lies c.args.image.now (m_efnu c.args.h.now) c.in-Some.lbn = slot-lies _ _ _ _ c.requires.0 (sym c.slot_in_use.ensures ∙ c.in-Some.is) (omega arith) in
    (rw c.block.ensures lies.long, omega arith)

pub returns-in-Some : goal.returns-in-Some
returns-in-Some c =
    let lies : Lies c.args.image.now (m_efnu c.args.h.now) c.in-Some.lbn = slot-lies _ _ _ _ c.requires.0 (sym c.slot_in_use.ensures ∙ c.in-Some.is) (omega arith) in
    sym (link-is-to _ _ (omega arith) (lies-tests _ _ _ _ lies c.requires.1 ∙ sym (rw c.block.ensures at c.is_next.ensures) ∙ c.if-is_next.true) _ lies.at)

pub returns-in_default : goal.returns-in_default
returns-in_default c =
    let lies : Lies c.args.image.now (m_efnu c.args.h.now) c.in-Some.lbn = slot-lies _ _ _ _ c.requires.0 (sym c.slot_in_use.ensures ∙ c.in-Some.is) (omega arith) in
    sym (link-is-bad _ _ (omega arith) (lies-tests _ _ _ _ lies c.requires.1 ∙ sym (rw c.block.ensures at c.is_next.ensures) ∙ c.if-is_next.false))

pub returns-in_default-2 : goal.returns-in_default-2
returns-in_default-2 c =
    let n : c.from.result ≡ m_efnu c.args.h.now = omega arith in
    let none : Found c.args.image.now (m_efnu c.args.h.now) None = slot-found _ _ _ (rw n at (sym c.slot_in_use.ensures ∙ c.in_default.is)) in
    sym (link-is-bad _ _ (omega arith) (links-none _ _ none))
