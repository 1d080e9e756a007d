-- A mark is capped at 2, and a header is wanted at most once.
use Rattle.std.specs.Prelude.{Ok}
use native.Mathlib.Omega.{arith}
use mathlib.Core.Path.{◌≡◌, sym, ap, ◌∙◌}
use mathlib.Core.Bool.{true}
use mathlib.Core.List.{List}
use Prim.Native.Nat.{ℕ}
use borrow.Author.Tests.{ne_eqb}
use Rattle.image.specs.Blocks.{block}
use Rattle.volume.specs.Opening.{open_volume}
use Rattle.files.specs.Files.{files}
use Rattle.slots.specs.declared.SlotRun.{SlotRun}
use Rattle.slots.specs.Slots.{Stands}
use Rattle.volume.specs.Volume.{header, in_use}
use Rattle.volume.proofs.VolumeLaws.{opens}
use Rattle.slots.proofs.SlotLaws.{stands_read}
use Rattle.links.specs.Links.{linked, links_wanted}
use Rattle.files.proofs.FileLaws.{files-passed}
use Rattle.links.proofs.LinksLaws.{link-unused, link-miscounted, link-counted, wanted-most, capped_is, is-capped}
use Rattle.links.proofs.is_bad_link.Goals as goal

-- The header that was read is the one of the number.
read : (image h : List ℕ) (n : ℕ) (run : SlotRun) → open_volume image ≡ Ok tt → files image ≡ Ok tt → Stands image n run → in_use image n ≡ true
    → h ≡ block image run.lbn.0 → h ≡ header image n
read image h n run o f s u e = e ∙ stands_read image n run s ((files-passed image (opens image o).enough f).slotted n u)

pub returns-then-not-used : goal.returns-then-not-used
returns-then-not-used c =
    let image = c.args.image.now in
    sym (link-unused image (linked image) c.args.n.0 (sym c.requires.3 ∙ c.if-not-used.true))

pub returns-then-mark-links_wanted : goal.returns-then-mark-links_wanted
returns-then-mark-links_wanted c =
    let image = c.args.image.now in
    let n = c.args.n.0 in
    let p = c.requires in
    let used = sym p.3 ∙ c.if-not-used.false in
    let wanted : c.links_wanted.result ≡ links_wanted (header image n) =
    c.links_wanted.ensures ∙ ap links_wanted (read image _ n c.args.run p.0.0 p.1 p.2 used c.block-h.ensures) in
    let most = wanted-most (header image n) in
    rw (ne_eqb c.args.mark c.links_wanted.result (omega arith)) (sym (link-miscounted image (linked image) n used (λ q. omega (arith, p.4, is-capped (linked image) n (links_wanted (header image n)) most q, most, wanted))))

pub returns-else-mark-links_wanted : goal.returns-else-mark-links_wanted
returns-else-mark-links_wanted c =
    let image = c.args.image.now in
    let n = c.args.n.0 in
    let p = c.requires in
    let used = sym p.3 ∙ c.if-not-used.false in
    let is : c.block-h.result.now ≡ header image n = read image _ n c.args.run p.0.0 p.1 p.2 used c.block-h.ensures in
    let wanted : c.links_wanted.result ≡ links_wanted (header image n) = c.links_wanted.ensures ∙ ap links_wanted is in
    let counted = capped_is (linked image) n (links_wanted (header image n)) (wanted-most (header image n)) (omega (arith, p.4, wanted)) in
    rw (link-counted image (linked image) n used counted, ← is, ← c.has_good_link.ensures)
