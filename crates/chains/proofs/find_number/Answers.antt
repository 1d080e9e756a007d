-- The slot that was found, and the header in it, are those of the definition.
use Rattle.std.proofs.Common.{rules}
use mathlib.Core.Path.{◌≡◌, refl, sym, ◌∙◌}
use native.Mathlib.Omega.{arith}
use Rattle.volume.specs.Volume.{fault_of}
use Rattle.chains.proofs.LinkLaws.{Lies, slot-lies}
use Rattle.chains.proofs.FindingLaws.{finds-none, find-unwhole, find-passed}
use Rattle.chains.proofs.find_number.Goals as goal

pub returns-in_err-lbn : goal.returns-in_err-lbn
returns-in_err-lbn c =
    let e = c.in_err-lbn.ensures in
    finds-none _ _ _ c.requires.2 e.ok_part _ c.in_err-lbn.field-0.0 e.value (search rules)

pub fault-unmet-requires : goal.fault-unmet-requires
fault-unmet-requires c =
    let lies : Lies c.args.image.now c.args.n.0 c.in_ok-lbn.lbn = slot-lies _ _ _ _ c.requires.0 (sym c.requires.2 ∙ c.in_ok-lbn.ensures.ok_part) refl in
    rw c.block.ensures lies.long

pub returns-then-unmet-ne0 : goal.returns-then-unmet-ne0
unfolding fault_of
returns-then-unmet-ne0 c =
    let a = c.args in
    let lies : Lies a.image.now a.n.0 c.in_ok-lbn.lbn = slot-lies _ _ _ _ c.requires.0 (sym c.requires.2 ∙ c.in_ok-lbn.ensures.ok_part) refl in
    let tested : c.fault-unmet.result ≡ fault_of a.image.now a.n.0 = rw (← c.requires.1, ← lies.is, ← c.block.ensures) c.fault-unmet.ensures in
    rw tested (find-unwhole _ _ lies.number (omega (arith, tested)))

pub returns : goal.returns
unfolding fault_of
returns c =
    let a = c.args in
    let lies : Lies a.image.now a.n.0 c.in_ok-lbn.lbn = slot-lies _ _ _ _ c.requires.0 (sym c.requires.2 ∙ c.in_ok-lbn.ensures.ok_part) refl in
    let tested : c.fault-unmet.result ≡ fault_of a.image.now a.n.0 = rw (← c.requires.1, ← lies.is, ← c.block.ensures) c.fault-unmet.ensures in
    (find-passed _ _ lies.number (omega (arith, tested)), lies.at)
