-- Each turn is at a header of the chain, with the members before it; its segment number is how many they are.
use Rattle.std.proofs.Common.{rules, refl}
use native.Mathlib.Omega.{arith}
use Rattle.chains.proofs.MemberLaws.{gathers-start, gathers-end, gathers-number, gathers-next}
use Rattle.chains.proofs.NumberLaws.{number-slot}
use Rattle.chains.proofs.members_of.Goals as goal

pub loop-v-init : goal.loop-v-init
loop-v-init c =
    let p = c.requires in
    gathers-start _ _ _ _ _ p.1 p.2 p.3 refl refl

pub returns-then-next-eq0 : goal.returns-then-next-eq0
returns-then-next-eq0 c = gathers-end _ _ _ _ _ _ _ c.loop-v.invariant c.from.result (cc) (omega arith)

pub slot_at-at-requires : goal.slot_at-at-requires
slot_at-at-requires c = (c.requires.0, number-slot _ _ (gathers-number _ _ _ _ _ _ _ c.loop-v.invariant c.from.result (cc) (omega arith)))

pub loop-v-preserved : goal.loop-v-preserved
loop-v-preserved c =
    gathers-next _ _ _ _ _ _ _ c.loop-v.invariant c.from.result (cc) (omega arith) (record { each = λ i. omega (arith, c.type_inv.image i) }) _ c.slot_at-at.ensures
