-- Header 1 lies where it must, the headers after it where they lead on, and header 2 in its slot.
use Rattle.std.proofs.lemmas.Result.{err_from_is_err_and}
use native.Mathlib.Omega.{arith}
use mathlib.Core.Path.{◌≡◌, sym, ap, ap₂, ◌∙◌}
use mathlib.Core.Bool.{Bool, true, false, ◌&&◌, and-false, and-eq-true_iff}
use mathlib.Core.List.{List}
use Prim.Native.Nat.{ℕ, ◌+◌}
use lib.ListN.{length, get_or}
use lib.Dec.{eqb}
use Rattle.answer.specs.declared.refusal.Refusal.TheVariants as refusal
use Rattle.image.specs.Blocks.{block}
use Rattle.image.specs.Words.{byte_at}
use Rattle.pointers.specs.Pointers.{Fits, blocks_of}
use Rattle.whole.proofs.WholeLaws.{whole-fits}
use Rattle.home.specs.Home.{blocks, home}
use Rattle.volume.specs.declared.Volume.{Volume}
use Rattle.volume.specs.Volume.{iblb, ibsz, index_header, index_ends, places_of, header, base, map_blocks}
use Rattle.volume.specs.Opening.{sized, geometry, heads, alone, index_mapped, storage_mapped, indexed, stored, Laid}
use Rattle.volume.proofs.OpeningLaws.{open-index, open-storage, open-passed}
use Rattle.volume.proofs.VolumeLaws.{begins, laid-room, laid-length, laid-header1, laid-begins, laid-indexed, laid-header2, laid-stored, stored-gives, says_all}
use Rattle.open_volume.proofs.open_laid_out.Goals as goal

-- What is read of a volume that is laid out so.
module _ (image : List ℕ) (v : Volume) (s : sized image ≡ true) (g : geometry image ≡ true) (l : Laid image v) where
  -- Header 1, and the test of it.
  module _ (h : List ℕ) (b : Bool) (e : h ≡ block image (v.iblb.0 + v.ibsz)) (f : b ≡ (heads v.blocks 1 h && index_mapped v.home.0 v.iblb.0 v.ibsz (blocks_of h))) where
    begun : b ≡ begins image v l
    begun = f ∙ rw e (rw (laid-header1 image v l) (laid-begins image v l))

    index-bad : b ≡ false → indexed image ≡ false
    index-bad t = sym (laid-indexed image v l) ∙ ap (λ (x : Bool). x && index_ends image) (sym begun ∙ t)

    index-good : b ≡ true → index_ends image ≡ true → indexed image ≡ true
    index-good t ends = sym (laid-indexed image v l) ∙ ap₂ (λ (x y : Bool). x && y) (sym begun ∙ t) ends

  index-open : index_ends image ≡ false → indexed image ≡ false
  index-open e = sym (laid-indexed image v l) ∙ rw (e, and-false)

  -- Header 2, and the test of it.
  module _ (i : indexed image ≡ true) (h : List ℕ) (e : h ≡ block image (v.iblb.0 + v.ibsz + 1)) where
    second : h ≡ header image 2
    second = e ∙ laid-header2 image v l i

    stored-read : (b : Bool)
        → b ≡ (alone v.blocks 2 h && storage_mapped (map_blocks v.blocks) h && eqb (byte_at (block image (get_or (blocks_of h) 0 0)) 3) (map_blocks v.blocks)) → b ≡ stored image
    stored-read b f = f ∙ rw second (laid-stored image v l)

    storage-fits : stored image ≡ true → Fits h
    storage-fits t =
        let long : length h ≡ 512 = rw e (laid-length image v l s g _ (omega arith)) in
        whole-fits (blocks image) 2 h long (rw second (stored-gives image t).0.whole)

pub overflow_add-first : goal.overflow_add-first
overflow_add-first c = omega (arith, laid-room c.args.image.now c.args.v c.requires.3 c.requires.0 c.requires.2)

pub is_indexed-requires : goal.is_indexed-requires
is_indexed-requires c =
    let room = laid-room c.args.image.now c.args.v c.requires.3 c.requires.0 c.requires.2 in
    (rw c.block-h1.ensures (laid-length c.args.image.now c.args.v c.requires.3 c.requires.0 c.requires.2 _ (omega arith)), omega (arith, room), omega (arith, room))

pub returns-then-not-is_indexed : goal.returns-then-not-is_indexed
returns-then-not-is_indexed c =
    let image = c.args.image.now in
    let r = c.requires in
    open-index image r.0 r.1 r.2 (index-bad image c.args.v r.0 r.2 r.3 _ _ c.block-h1.ensures c.is_indexed.ensures c.if-not-is_indexed.true)

pub headers_of-requires : goal.headers_of-requires
headers_of-requires c =
    let image = c.args.image.now in
    let v = c.args.v in
    let r = c.requires in
    let t : begins image v r.3 ≡ true = sym (begun image v r.0 r.2 r.3 _ _ c.block-h1.ensures c.is_indexed.ensures) ∙ c.if-not-is_indexed.false in (
      r.4,
      r.0,
      r.2,
      r.3,
      ((and-eq-true_iff (heads (blocks image) 1 (index_header image)) (index_mapped (home image) (iblb image) (ibsz image) (blocks_of (index_header image)))).0 t).0,
      c.block-h1.ensures ∙ laid-header1 image v r.3,
    )

pub returns-in_err-segments : goal.returns-in_err-segments
returns-in_err-segments c =
    let image = c.args.image.now in
    let r = c.requires in
    let ends = rw c.in_err-segments.ensures.ok_part at c.headers_of.ensures in
    let is : c.in_err-segments.field-0.0 ≡ refusal.Index = cc (rw c.in_err-segments.ensures.ok_part at c.in_err-segments.ensures.value) in
    let p = err_from_is_err_and c.from_residual.result c.from_residual.ensures.1 in
    rw (p.1, p.2, is) (open-index image r.0 r.1 r.2 (index-open image c.args.v r.0 r.2 r.3 ends))

pub overflow_add-first-2 : goal.overflow_add-first-2
overflow_add-first-2 c = omega (arith, laid-room c.args.image.now c.args.v c.requires.3 c.requires.0 c.requires.2)

pub is_stored-requires : goal.is_stored-requires
is_stored-requires c =
    let room = laid-room c.args.image.now c.args.v c.requires.3 c.requires.0 c.requires.2 in
    (rw c.block-h2.ensures (laid-length c.args.image.now c.args.v c.requires.3 c.requires.0 c.requires.2 _ (omega arith)), room.1)

pub returns-then-not-is_stored : goal.returns-then-not-is_stored
returns-then-not-is_stored c =
    let image = c.args.image.now in
    let v = c.args.v in
    let r = c.requires in
    let found = rw c.in_ok-segments.ensures.ok_part at c.headers_of.ensures in
    let good = index-good image v r.0 r.2 r.3 _ _ c.block-h1.ensures c.is_indexed.ensures c.if-not-is_indexed.false found.0 in
    open-storage image r.0 r.1 r.2 good (sym (stored-read image v r.0 r.2 r.3 good _ c.block-h2.ensures _ c.is_stored.ensures) ∙ c.if-not-is_stored.true)

pub lbn_in-base-requires : goal.lbn_in-base-requires
lbn_in-base-requires c =
    let image = c.args.image.now in
    let v = c.args.v in
    let r = c.requires in
    let found = rw c.in_ok-segments.ensures.ok_part at c.headers_of.ensures in
    let good = index-good image v r.0 r.2 r.3 _ _ c.block-h1.ensures c.is_indexed.ensures c.if-not-is_indexed.false found.0 in
    storage-fits image v r.0 r.2 r.3 good _ c.block-h2.ensures (sym (stored-read image v r.0 r.2 r.3 good _ c.block-h2.ensures _ c.is_stored.ensures) ∙ c.if-not-is_stored.false)

pub returns : goal.returns
unfolding base places_of
returns c =
    let image = c.args.image.now in
    let v = c.args.v in
    let r = c.requires in
    let l = r.3 in
    let found = rw c.in_ok-segments.ensures.ok_part at c.headers_of.ensures in
    let good = index-good image v r.0 r.2 l _ _ c.block-h1.ensures c.is_indexed.ensures c.if-not-is_indexed.false found.0 in (
      open-passed image r.0 r.1 r.2 good (sym (stored-read image v r.0 r.2 l good _ c.block-h2.ensures _ c.is_stored.ensures) ∙ c.if-not-is_stored.false),
      says_all image _ (record { blocks = l.blocks; home = l.home; ibsz = l.ibsz; iblb = l.iblb; fmax = l.fmax })
          (c.lbn_in-base.ensures ∙ ap₂ (λ (h : List ℕ) (i : ℕ). get_or (blocks_of h) i 0) (second image v r.0 r.2 l good _ c.block-h2.ensures) (omega arith)) found.1,
      found.2,
    )
