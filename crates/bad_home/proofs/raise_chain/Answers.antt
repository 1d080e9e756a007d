-- Each turn is at a header of file 3's chain, whose links are all good.
use Rattle.std.specs.Prelude.{Ok}
use mathlib.Core.Path.{◌≡◌, ◌∙◌}
use mathlib.Core.List.{List}
use Prim.Native.Nat.{ℕ}
use native.Mathlib.Omega.{arith}
use lib.ListN.{length}
use Rattle.volume.specs.Volume.{header}
use Rattle.volume.specs.Opening.{open_volume}
use Rattle.files.specs.Files.{files}
use Rattle.header.specs.Fields.{m_efnu}
use Rattle.chains.proofs.ChainLaws.{walk-good}
use Rattle.links.proofs.LinksLaws.{links-passed}
use Rattle.covers.proofs.CoverLaws.{used-fits, used-ends, good-chain}
use Rattle.bad_home.proofs.RaiseLaws.{Raised, raised-start, raised_long, raised-next, raised-end, raised-used, three-used, three-number, three-first}
use Rattle.bad_home.proofs.raise_chain.Goals as goal

-- The walk is at a header where it was at the first one.
at : (image area₀ area h₀ h : List ℕ) → open_volume image ≡ Ok tt → files image ≡ Ok tt → (Raised image area₀ area₀ h₀ → Raised image area₀ area h) → h₀ ≡ header image 3
    → Raised image area₀ area h
at image area₀ area h₀ h o f walk e = walk (rw e (raised-start image area₀ (three-first image o f)))

pub header_of-h-requires : goal.header_of-h-requires
header_of-h-requires c = (c.requires.0, three-number _ c.requires.0.0 c.requires.1)

pub raise_header-requires : goal.raise_header-requires
raise_header-requires c =
    let p = c.requires in
    let r = at _ _ c.loop-h.area _ c.loop-h.h.now p.0.0 p.1 c.loop-h.invariant c.header_of-h.ensures in
    let used = raised-used _ _ _ _ r in (
      rw r.walk.is at (used-fits _ p.0.0 p.1 r.walk.number used),
      rw r.walk.is at (used-ends _ p.0.0 p.1 r.walk.number (length c.loop-h.area) used (omega (arith, p.3, raised_long _ _ _ _ r))),
    )

pub returns-then-next-eq0 : goal.returns-then-next-eq0
returns-then-next-eq0 c =
    let p = c.requires in
    let r = at _ _ c.loop-h.area _ c.loop-h.h.now p.0.0 p.1 c.loop-h.invariant c.header_of-h.ensures in
    c.raise_header.ensures ∙ raised-end _ _ _ _ r (omega arith)

pub next_header-h-requires : goal.next_header-h-requires
next_header-h-requires c =
    let p = c.requires in
    let r = at _ _ c.loop-h.area _ c.loop-h.h.now p.0.0 p.1 c.loop-h.invariant c.header_of-h.ensures in
    let some : m_efnu c.loop-h.h.now ≡ 0 → ⊥ = λ (e : m_efnu c.loop-h.h.now ≡ 0). omega arith in
    (p.0, omega arith, some, walk-good _ 3 _ _ r.walk (good-chain _ (links-passed _ p.2).good 3 (three-used _ p.0.0 p.1)))

pub loop-h-preserved : goal.loop-h-preserved
loop-h-preserved c r = raised-next _ _ _ _ (c.loop-h.invariant r) _ _ c.raise_header.ensures c.next_header-h.ensures
