-- What storing needs, of an image that is usable and passes extend's tests.
use mathlib.Core.Path.{◌≡◌}
use mathlib.Core.Bool.{true}
use mathlib.Core.List.{List}
use Prim.Native.Nat.{ℕ, ◌+◌, ◌≤◌, ◌<◌}
use native.Mathlib.Omega.{arith}
use borrow.Author.Tests.{leb-true}
use Rattle.image.specs.Blocks.{block}
use Rattle.lists.specs.Lists.{numbers_from}
use Rattle.answer.specs.declared.types.FileId.{FileId}
use Rattle.header.specs.Fields.{m_use, m_max}
use Rattle.whole.proofs.WholeLaws.{whole_is}
use Rattle.home.specs.Home.{blocks}
use Rattle.volume.specs.Volume.{slot, header, fault_of, in_use, map_blocks, base}
use Rattle.volume.proofs.VolumeLaws.{Opens, slot-below, base-fits}
use Rattle.slots.proofs.SlotLaws.{used-range}
use Rattle.sound.proofs.ChainLaws.{member-used}
use Rattle.header_edit.specs.Extended.{extended_header}
use Rattle.image.specs.Stores.{put_block, put_map_bits}
use Rattle.update.specs.Extend.{has_room, run_start, with_blocks}
use Rattle.chains.specs.Chains.{last_number}
use Rattle.update.proofs.Effects.{Usable}
use Rattle.update.proofs.FrameLaws.{slot-clear}
use Rattle.image.proofs.WriteLaws.{put_map_bits-outside}
use Rattle.update.proofs.ExtendLaws.{count-range, run_fits}
use Rattle.update.proofs.PassedLaws.{ExtendPassed}
use Rattle.update.proofs.LastLaws.{last-member}
use Rattle.extend.specs.Taking.{Takes}

module _ (image : List ℕ) (g : Usable image) (id : FileId) (c : ℕ) (p : ExtendPassed image id c) where
  abbrev n : ℕ
  n = id.number

  abbrev last : ℕ
  last = last_number image n

  last-used : in_use image last ≡ true
  last-used = member-used image g.safe n p.file last (last-member image g.bytes g.safe n p.file)

  pub takes : Takes image (slot image last) (run_start image c) c
  unfolding has_room header fault_of
  takes =
      let high = g.safe.slotted last last-used in
      let low = (used-range image last last-used).0 in
      record {
        inside = slot-below g.opens last low high;
        apart = (slot-clear image g last low high).storage;
        area = (whole_is (blocks image) last (header image last) (g.safe.whole last last-used)).room;
        room = leb-true (m_use (header image last) + 2) (m_max (header image last)) p.room;
        least = (count-range c p.counted).0;
        most = (count-range c p.counted).1;
        fits = run_fits image c p.run;
      }

-- A block off the storage map is as it was once the map is stored.
pub taken-block : (image : List ℕ) → Opens image → (k : ℕ) → (base image ≤ k → k < base image + map_blocks (blocks image) → ⊥) → (s c v : ℕ)
    → block (put_map_bits image (base image) (map_blocks (blocks image)) (numbers_from s c) v) k ≡ block image k
taken-block image o k out s c v =
    (put_map_bits-outside image (base image) (map_blocks (blocks image)) (numbers_from s c) v (omega (arith, o.size, base-fits o))).same k out

-- The stores are those of the definition.
pub taken : (image : List ℕ) (n s c k t : ℕ) → k ≡ slot image n → t ≡ s
    → put_block (put_map_bits image (base image) (map_blocks (blocks image)) (numbers_from t c) 0) k (extended_header (block image k) t c) ≡ with_blocks image n s c
unfolding with_blocks header
taken image n s c k t e f = rw (e, f)
