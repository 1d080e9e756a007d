-- Laws of regions of several blocks, and of one block as the region of one.
use Rattle.std.proofs.Common.{◌≡◌, ℕ, ◌+◌, ◌*◌, ◌<◌, ◌≤◌, List, length, drop, sym, refl, ap, ◌∙◌, arith, length-drop, length-take, get_or-drop, get_or-take, ext_get_or}
use native.Mathlib.Decide.{dec_lt}
use lib.ListN.{get_or-eq_default}
use Rattle.image.specs.Words.{byte_at, Bytes, word_at}
use Rattle.image.specs.Blocks.{region, block}
use Rattle.image.proofs.WordLaws.{word_same}

module _ (image : List ℕ) (k q : ℕ) where
  -- At most the whole region; all of it where it lies inside the image.
  pub region-most : length (region image k q) ≤ 512 * q
  unfolding region
  region-most = simp length-take (omega arith)

  pub region-length : 512 * (k + q) ≤ length image → length (region image k q) ≡ 512 * q
  unfolding region
  region-length h = simp (length-take, length-drop) (omega arith)

  pub byte-region : (i : ℕ) → i < 512 * q → byte_at (region image k q) i ≡ byte_at image (512 * k + i)
  unfolding region
  byte-region i h = get_or-take (512 * q) (drop (512 * k) image) i 0 h ∙ get_or-drop (512 * k) image i 0

  pub word-region : (i : ℕ) → i + 1 < 512 * q → word_at (region image k q) i ≡ word_at image (512 * k + i)
  word-region i h =
      word_same (region image k q) image i (512 * k + i) (byte-region i (omega arith)) (byte-region (i + 1) h ∙ ap (byte_at image) (omega arith))

  pub region-bytes : Bytes image → Bytes (region image k q)
  region-bytes bytes = record { each = λ i. go i (dec_lt i (512 * q)) }
    where
      go : (i : ℕ) → Dec (i < 512 * q) → byte_at (region image k q) i < 256
      go i (yes h) = rw (byte-region i h) (bytes.each (512 * k + i))
      go i (no h) = omega (arith, get_or-eq_default (region image k q) 0 {n = i} (omega (arith, region-most)))

-- The p blocks from block i of the region on are those from block k + i of the image on.
pub region-region : (image : List ℕ) (k q i p : ℕ) → i + p ≤ q → region (region image k q) i p ≡ region image (k + i) p
unfolding region
region-region image k q i p h =
    ext_get_or 0 (region (region image k q) i p) (region image (k + i) p)
    (simp (length-take, length-drop) (omega arith))
    (λ j l.
    let small : j < 512 * p = omega (arith, region-most (region image k q) i p) in
    byte-region (region image k q) i p j small
    ∙ byte-region image k q (512 * i + j) (omega arith)
    ∙ ap (byte_at image) (omega arith)
    ∙ sym (byte-region image (k + i) p j small))

pub region-one : (image : List ℕ) (k : ℕ) → region image k 1 ≡ block image k
unfolding region block
region-one image k = refl

module _ (image : List ℕ) (k : ℕ) where
  pub block-length : 512 * k + 512 ≤ length image → length (block image k) ≡ 512
  block-length h = rw (← region-one image k) (region-length image k 1 (omega arith))

  pub byte-block : (i : ℕ) → i < 512 → byte_at (block image k) i ≡ byte_at image (512 * k + i)
  byte-block = rw (← region-one image k) (byte-region image k 1)

  pub word-block : (i : ℕ) → i + 1 < 512 → word_at (block image k) i ≡ word_at image (512 * k + i)
  word-block = rw (← region-one image k) (word-region image k 1)

  pub block-bytes : Bytes image → Bytes (block image k)
  block-bytes = rw (← region-one image k) (region-bytes image k 1)

-- Block i of a region is block k + i of the image.
pub block-region : (image : List ℕ) (k q i : ℕ) → i < q → block (region image k q) i ≡ block image (k + i)
block-region image k q i h = sym (region-one (region image k q) i) ∙ region-region image k q i 1 (omega arith) ∙ region-one image (k + i)
