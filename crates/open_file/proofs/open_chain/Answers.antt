-- A good chain's blocks are counted, and a bad one is refused.
use Rattle.std.proofs.Common.{rules, ◌≡◌, Some, None}
use native.Mathlib.Omega.{arith}
use Rattle.chains.specs.Chains.{chain_blocks}
use Rattle.chains.proofs.SizeLaws.{file-most}
use Rattle.chains.proofs.ChainLaws.{counted}
use Rattle.open_file.proofs.OpeningLaws.{tells-refused, chained-bad, chained-passed}
use Rattle.open_file.proofs.open_chain.Goals as goal

pub returns-in_err-blocks : goal.returns-in_err-blocks
returns-in_err-blocks c =
    let a = c.args in
    let e : chain_blocks a.image.now a.id.number ≡ None = cc c.in_err-blocks.ensures.ok_part in
    tells-refused a.image.now a.id _ _ _ (search (rules, c.in_err-blocks.ensures.value)) (chained-bad _ a.id (counted _ _ _ e))

pub returns : goal.returns
returns c =
    let a = c.args in
    let e : chain_blocks a.image.now a.id.number ≡ Some c.in_ok-blocks.blocks = cc c.in_ok-blocks.ensures.ok_part in
    let g = counted _ _ _ e in
    (chained-passed _ a.id g.0, g.1, c.requires.2, omega (arith, g.1, file-most a.image.now (record { each = λ i. omega (arith, c.type_inv.image i) }) a.id.number))
