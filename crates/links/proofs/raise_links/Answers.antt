-- The bit in the index map says whether a number is in use, and the run where its header lies.
use native.Mathlib.Omega.{arith}
use mathlib.Core.Path.{◌≡◌, ap, ◌∙◌}
use Prim.Native.Nat.{ℕ, ◌+◌, ◌-◌}
use Rattle.volume.specs.Volume.{fmax}
use Rattle.volume.proofs.VolumeLaws.{opens, says}
use Rattle.marks.specs.Marks.{tallied}
use Rattle.slots.specs.Slots.{gathered}
use Rattle.slots.proofs.SlotLaws.{read-inside, read-used}
use Rattle.links.specs.Links.{link_of, linked}
use Rattle.files.proofs.FileLaws.{files-passed, fmax-few}
use Rattle.links.proofs.LinksLaws.{marks-none, marks-next}
use Rattle.links.proofs.raise_links.Goals as goal

pub overflow_add-n-end : goal.overflow_add-n-end
overflow_add-n-end c = omega (arith, fmax-few c.args.image.now c.args.v c.requires.0 c.type_inv.image)

pub loop-n-init : goal.loop-n-init
loop-n-init c =
    let image = c.args.image.now in
    record { stands = c.slot_run-run.ensures; marks = c.requires.3 ∙ marks-none image (fmax image) c.args.headers.now }

pub bit_at-used-requires : goal.bit_at-used-requires
bit_at-used-requires c = read-inside c.args.image.now c.args.v c.requires.0 _ c.region-map.ensures c.loop-n.n (omega arith) (omega arith)

pub raise_link-requires : goal.raise_link-requires
raise_link-requires c = omega (arith, c.loop-n.auto.headers, (says c.args.image.now c.args.v c.requires.0.1).fmax, c.requires.2)

pub next_run-run-requires : goal.next_run-run-requires
next_run-run-requires c = (c.requires.0, c.loop-n.invariant.stands, omega (arith, fmax-few c.args.image.now c.args.v c.requires.0 c.type_inv.image))

pub loop-n-preserved : goal.loop-n-preserved
loop-n-preserved c =
    let image = c.args.image.now in
    let n = c.loop-n.n in
    let e : n + 1 - 1 ≡ n = omega arith in
    let used = read-used image c.args.v c.requires.0 _ c.region-map.ensures n (omega arith) (omega arith) _ c.bit_at-used.ensures in
    let f = files-passed image (opens image c.requires.0.0).enough c.requires.1 in
    record {
      stands = c.next_run-run.ensures;
      marks =
          rw (c.raise_link.ensures, c.loop-n.invariant.marks, (says image c.args.v c.requires.0.1).fmax, e)
          (marks-next image (fmax image) c.args.headers.now f n _ c.loop-n.run _ (omega arith) c.loop-n.invariant.stands used c.link_of.ensures);
    }

pub returns : goal.returns
unfolding linked
returns c =
    let image = c.args.image.now in
    let e : c.loop-n.n - 1 ≡ fmax image = omega (arith, (says image c.args.v c.requires.0.1).fmax) in
    c.loop-n.invariant.marks ∙ ap (λ (m : ℕ). tallied (gathered image link_of m) 1 (fmax image) c.args.headers.now) e
