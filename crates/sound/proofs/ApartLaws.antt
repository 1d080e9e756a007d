-- What an image that opens and is safe gives to those who write to it: the blocks of its files are pairwise different, for a header is a
-- member of one chain, and files 1 and 2 lie where opening the volume found them.
use mathlib.Core.Path.{◌≡◌, refl}
use mathlib.Core.List.{List}
use Prim.Native.Nat.{ℕ, ◌+◌, ◌<◌}
use native.Mathlib.Omega.{arith}
use lib.ListN.{length, get_or}
use Rattle.pointers.specs.Pointers.{blocks_of}
use Rattle.home.specs.Home.{blocks}
use Rattle.volume.specs.Volume.{header, ibsz, index, slot, slots}
use Rattle.volume.proofs.VolumeLaws.{Opens, index-file, opens, storage-size, storage-base}
use Rattle.chains.specs.Chains.{chain_of, file_blocks}
use Rattle.chains.proofs.ChainLaws.{flat-end}
use Rattle.chains.proofs.IndexFile.{file-index}
use Rattle.sound.specs.Sound.{Covers, Safe}
use Rattle.sound.specs.Claims.{IsFile, BlocksApart}
use Rattle.sound.proofs.CoverLaws.{covers_below}
use Rattle.sound.proofs.ChainLaws.{chains-apart}
use Rattle.sound.proofs.BlockLaws.{Lies, chain-lies, chain-different}

module _ (image : List ℕ) (s : Safe image) where
  -- Block i of a file is covered by a member of its chain.
  pub file-lies : (f : ℕ) → IsFile image f → (i : ℕ) → i < length (file_blocks image f) → Lies image (chain_of image f) (get_or (file_blocks image f) i 0)
  unfolding file_blocks chain_of
  file-lies f file i l = chain-lies image s 256 f file.used i l

  pub file-inside : (f i : ℕ) → IsFile image f → i < length (file_blocks image f) → get_or (file_blocks image f) i 0 < blocks image
  file-inside f i file l =
      let r = file-lies f file i l in
      covers_below image s.whole r.number r.place (get_or (file_blocks image f) i 0) r.covers

  one-file : (f i j : ℕ) → IsFile image f → i < length (file_blocks image f) → j < length (file_blocks image f)
      → get_or (file_blocks image f) i 0 ≡ get_or (file_blocks image f) j 0 → i ≡ j
  unfolding file_blocks chain_of
  one-file f i j file l k e = chain-different image s 256 f file.used i j l k e

  -- Two files with a block in common are one.
  pub files-apart : (f g i j : ℕ) → IsFile image f → IsFile image g → i < length (file_blocks image f) → j < length (file_blocks image g)
      → get_or (file_blocks image f) i 0 ≡ get_or (file_blocks image g) j 0 → f ≡ g
  files-apart f g i j ff fg l k e =
      let a = file-lies f ff i l in
      let b = file-lies g fg j k in
      let c : Covers image b.number b.place (get_or (file_blocks image f) i 0) = rw e b.covers in
      let q : a.number ≡ b.number = (s.once a.number a.place b.number b.place (get_or (file_blocks image f) i 0) a.covers c).0 in
      chains-apart image s f g ff fg b.number (rw q at a.member) b.member

  pub file-different : (f g i j : ℕ) → IsFile image f → IsFile image g → i < length (file_blocks image f) → j < length (file_blocks image g)
      → get_or (file_blocks image f) i 0 ≡ get_or (file_blocks image g) j 0 → (f ≡ g) × (i ≡ j)
  file-different f g i j ff fg l k e =
      let q : f ≡ g = files-apart f g i j ff fg l k e in
      (q, one-file g i j fg (rw q at l) k (rw q at e))

module _ (image : List ℕ) (o : Opens image) where
  -- File 2 has one header.
  pub file-storage : file_blocks image 2 ≡ blocks_of (header image 2)
  unfolding file_blocks chain_of
  file-storage = flat-end (header image) 255 2 o.storage-header.last

  index-length : length (index image) ≡ 2 + ibsz image + slots image
  unfolding slots
  index-length = omega (arith, (index-file o).long)

  slot_at : (n : ℕ) → get_or (index image) (1 + ibsz image + n) 0 ≡ slot image n
  unfolding slot
  slot_at n = refl

pub apart : BlocksApart
apart image passed s =
    let o = opens image passed in
    record {
      different = file-different image s;
      inside = file-inside image s;
      index-long = rw (file-index image o) (index-length image o);
      boot = rw (file-index image o) (index-file o).boot;
      home = rw (file-index image o) (index-file o).homed;
      index-map = λ i l. rw (file-index image o) ((index-file o).row i (omega arith));
      slot = λ n l h. rw (file-index image o) (slot_at image o n);
      storage-long = rw (file-storage image o) (storage-size o);
      storage-map = λ i l. rw (file-storage image o) (storage-base o i l);
      passed = s.passed;
    }
