-- The lowest bit that is not as the marks want it is the lowest wrong bit.
use mathlib.Core.Path.{◌≡◌, ap, ap₂, ◌∙◌}
use mathlib.Core.List.{List}
use Prim.Native.Nat.{ℕ, ◌*◌, ◌≤◌}
use native.Mathlib.Omega.{arith}
use borrow.Author.Tests.{eq-eqb, ne_eqb}
use lib.ListN.{length}
use Rattle.image.specs.Blocks.{region}
use Rattle.lists.specs.First.{first}
use Rattle.answer.specs.Outcome.{unless}
use Rattle.home.specs.Home.{blocks}
use Rattle.volume.specs.declared.Volume.{Volume}
use Rattle.volume.specs.Opening.{Open}
use Rattle.marks.specs.Marks.{tallied}
use Rattle.volume.specs.Volume.{map_blocks, storage_map, map_bits}
use Rattle.volume.proofs.VolumeLaws.{Opens, opens, says, storage_map-length}
use Rattle.map_marks.specs.Wanted.{unlike_marks}
use Rattle.covers.specs.Covered.{covered, map_place, bad_map}
use Rattle.covers.proofs.MarkedLaws.{map-marked, map-read}
use Rattle.covers.proofs.bad_map.Goals as goal

-- How many blocks and bits the map has, and which they are.
module _ (image : List ℕ) (v : Volume) (q : ℕ) (o : Open image v) (e : q ≡ map_blocks v.blocks) where
  opened : Opens image
  opened = opens image o.0

  total : v.blocks ≡ blocks image
  total = (says image v o.1).blocks

  few : q ≤ 255
  unfolding map_blocks
  few = omega (arith, e, total, opened.most)

  enough : v.blocks ≤ 4096 * q
  unfolding map_blocks
  enough = omega (arith, e)

  ends : 4096 * q ≡ map_bits (blocks image)
  unfolding map_bits
  ends = ap (λ (k : ℕ). 4096 * k) (e ∙ ap map_blocks total)

  module _ (bits : List ℕ) (b : bits ≡ region image v.base.0 q) where
    bits-length : length bits ≡ 512 * q
    bits-length =
        let same : q ≡ map_blocks (blocks image) = e ∙ ap map_blocks total in
        omega (arith, ap length (map-read image v q bits o e b), storage_map-length opened, same)

    -- What is found is the place of MAP.
    at : (area : List ℕ) → area ≡ tallied (covered image) 0 (blocks image) area → first (unlike_marks bits area v.blocks) 0 (4096 * q) ≡ map_place image
    at area marks =
        ap (λ (m : List ℕ). first (unlike_marks m area v.blocks) 0 (4096 * q)) (map-read image v q bits o e b)
        ∙ ap₂ (λ (n k : ℕ). first (unlike_marks (storage_map image) area n) 0 k) total ends
        ∙ map-marked image area marks

pub overflow_mul-end : goal.overflow_mul-end
overflow_mul-end c = omega (arith, few _ c.args.v _ c.requires.0 c.map_blocks-q.ensures.0)

pub first_unlike-requires : goal.first_unlike-requires
first_unlike-requires c =
    let o = c.requires.0 in
    let size = c.map_blocks-q.ensures.0 in
    let t = total _ c.args.v _ o size in (
      omega (arith, c.requires.1, t),
      omega (arith, enough _ c.args.v _ o size),
      omega (arith, bits-length _ c.args.v _ o size _ c.region-bits.ensures),
      omega (arith, few _ c.args.v _ o size),
    )

pub overflow_cast-result : goal.overflow_cast-result
overflow_cast-result c = omega (arith, few _ c.args.v _ c.requires.0 c.map_blocks-q.ensures.0, c.in-Some.ensures)

pub returns-in-None : goal.returns-in-None
unfolding bad_map unless
returns-in-None c =
    let image : List ℕ = c.args.image.now in
    let size = c.map_blocks-q.ensures.0 in
    let is = at image c.args.v _ c.requires.0 size _ c.region-bits.ensures c.args.area.now c.requires.2 in
    rw (eq-eqb (map_place image) (map_bits (blocks image)) (omega (arith, is, ends image c.args.v _ c.requires.0 size, c.in-None.ensures)))

pub returns-in-Some : goal.returns-in-Some
unfolding bad_map unless
returns-in-Some c =
    let image : List ℕ = c.args.image.now in
    let size = c.map_blocks-q.ensures.0 in
    let is = at image c.args.v _ c.requires.0 size _ c.region-bits.ensures c.args.area.now c.requires.2 in
    rw (ne_eqb (map_place image) (map_bits (blocks image)) (omega (arith, is, ends image c.args.v _ c.requires.0 size, c.in-Some.ensures)), ← is, c.in-Some.ensures.0)
