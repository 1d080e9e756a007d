-- Laws of an image of which a block is written, or the bits of a map that lies in blocks of it.
use Rattle.std.proofs.Common.{◌≡◌, ℕ, ◌+◌, ◌-◌, ◌*◌, ◌/◌, ◌<◌, ◌≤◌, List, ◌++◌, length, get_or, take, drop, sym, ap, ◌∙◌, arith, length-drop, length-take}
use native.Mathlib.Decide.{dec_lt}
use Rattle.lists.specs.Counts.{count, In}
use Rattle.lists.proofs.CountLaws.{Found, count_at, count-find}
use Rattle.image.specs.Words.{Bytes}
use Rattle.image.specs.Blocks.{region, block}
use Rattle.image.specs.Bits.{bit_at}
use Rattle.image.specs.Stores.{splice, put_bits, put_block, put_map_bits}
use Rattle.image.proofs.BlockLaws.{region-length, region-bytes, block-region}
use Rattle.image.proofs.StoreLaws.{Outside, region-agree, block-agree, part-splice, splice-bytes, splice-region, splice-block, Keeps, keeps-weaken, keeps-agree, splice-keeps}
use Rattle.image.proofs.BitLaws.{put_bits-agree, Put, put_bits-put}

-- A region of kept blocks is the same.
pub keeps-region : {P : ℕ → Type 0} {b b' : List ℕ} → Keeps P b b' → (k q : ℕ) → ((i : ℕ) → k ≤ i → i < k + q → P i) → region b' k q ≡ region b k q
keeps-region a k q p = region-agree (keeps-agree a) k q (λ o l. p ((512 * k + o) / 512) (omega arith) (omega arith))

-- A block.
module _ (image : List ℕ) (k : ℕ) (b : List ℕ) (long : length b ≡ 512) (fits : 512 * (k + 1) ≤ length image) where
  -- It is read back, and every other block stays.
  pub put_block-block : block (put_block image k b) k ≡ b
  unfolding put_block
  put_block-block = splice-block image k b long (omega arith)

  pub put_block-keeps : Keeps (λ i. i ≡ k → ⊥) image (put_block image k b)
  unfolding put_block
  put_block-keeps = keeps-weaken (λ i ne low high. ne (omega arith)) (splice-keeps image k 1 b long fits)

  pub put_block-region : (l q : ℕ) → (l ≤ k → k < l + q → ⊥) → region (put_block image k b) l q ≡ region image l q
  put_block-region l q out = keeps-region put_block-keeps l q (λ i low high e. out (omega arith) (omega arith))

  pub put_block-length : length (put_block image k b) ≡ length image
  put_block-length = put_block-keeps.len

  pub put_block-bytes : Bytes image → Bytes b → Bytes (put_block image k b)
  unfolding put_block
  put_block-bytes bytes news = splice-bytes (512 * k) (omega arith) bytes news

-- The part that is block k, lent and come back as s, which f makes of it.
pub part-block : (image : List ℕ) (k n : ℕ) (f : List ℕ → List ℕ) (s : List ℕ) → 512 * (k + 1) ≤ length image → n ≡ 512
    → length s ≡ length (take n (drop (512 * k) image)) → s ≡ f (take n (drop (512 * k) image))
    → take (512 * k) image ++ (s ++ drop n (drop (512 * k) image)) ≡ put_block image k (f (block image k))
unfolding put_block block
part-block image k n f s fits e kept made =
    let long : length s ≡ 512 = omega (arith, kept, length-take n (drop (512 * k) image), length-drop (512 * k) image) in
    rw e (part-splice image (512 * k) 512 s long ∙ ap (splice image (512 * k)) (rw e at made))

-- Bits of the map in the q blocks from LBN k on.
module _ (image : List ℕ) (k q : ℕ) (js : List ℕ) (v : ℕ) (fits : 512 * (k + q) ≤ length image) where
  pub bits-long : length (put_bits (region image k q) js v) ≡ 512 * q
  bits-long = (put_bits-agree js (region image k q) v).len ∙ region-length image k q fits

  -- The part that is the map, lent and come back as s.
  pub part-bits : (n : ℕ) (s : List ℕ) → n ≡ 512 * q → s ≡ put_bits (take n (drop (512 * k) image)) js v
      → take (512 * k) image ++ (s ++ drop n (drop (512 * k) image)) ≡ put_map_bits image k q js v
  unfolding put_map_bits region
  part-bits n s e f =
      let g : s ≡ put_bits (region image k q) js v = rw e at f in
      rw (e, g) (part-splice image (512 * k) (512 * q) (put_bits (region image k q) js v) bits-long)

  -- The map is read back with the bits put, and every block outside it stays.
  pub put_map_bits-map : region (put_map_bits image k q js v) k q ≡ put_bits (region image k q) js v
  unfolding put_map_bits
  put_map_bits-map = splice-region image k q (put_bits (region image k q) js v) bits-long (omega arith)

  pub put_map_bits-outside : Keeps (Outside k q) image (put_map_bits image k q js v)
  unfolding put_map_bits
  put_map_bits-outside = splice-keeps image k q (put_bits (region image k q) js v) bits-long fits

  pub put_map_bits-region : (l p : ℕ) → ((i : ℕ) → l ≤ i → i < l + p → Outside k q i) → region (put_map_bits image k q js v) l p ≡ region image l p
  put_map_bits-region = keeps-region put_map_bits-outside

  pub put_map_bits-length : length (put_map_bits image k q js v) ≡ length image
  put_map_bits-length = put_map_bits-outside.len

  -- So does a block of the map that holds none of the bits.
  pub put_map_bits-keeps : Keeps (λ i. (j : ℕ) → In j js → i ≡ k + j / 4096 → ⊥) image (put_map_bits image k q js v)
  put_map_bits-keeps = record { len = put_map_bits-length; same = λ i out. go i out (dec_lt i k) (dec_lt i (k + q)) }
    where
      inside : (i : ℕ) → k ≤ i → i < k + q → ((j : ℕ) → In j js → i ≡ k + j / 4096 → ⊥) → block (put_map_bits image k q js v) i ≡ block image i
      inside i low high out =
          let e : k + (i - k) ≡ i = omega arith in
          ap (block (put_map_bits image k q js v)) (sym e)
          ∙ sym (block-region (put_map_bits image k q js v) k q (i - k) (omega arith))
          ∙ ap (λ (m : List ℕ). block m (i - k)) put_map_bits-map
          ∙ block-agree (put_bits-agree js (region image k q) v) (i - k) (λ o l p h at. out (get_or js p 0) (count_at js p h) (omega arith))
          ∙ block-region image k q (i - k) (omega arith)
          ∙ ap (block image) e

      go : (i : ℕ) → ((j : ℕ) → In j js → i ≡ k + j / 4096 → ⊥) → Dec (i < k) → Dec (i < k + q) → block (put_map_bits image k q js v) i ≡ block image i
      go i out (yes l) d = put_map_bits-outside.same i (λ low high. omega arith)
      go i out (no l) (no h) = put_map_bits-outside.same i (λ low high. h high)
      go i out (no l) (yes h) = inside i (omega arith) h out

  -- The bits that were put are v, and the others are as they were.
  module _ (is_bit : v < 2) (bytes : Bytes image) (small : (j : ℕ) → In j js → j < 4096 * q) where
    put : Put (region image k q) js v
    put =
        put_bits-put js (region image k q) v is_bit (region-bytes image k q bytes)
        (λ p l. omega (arith, region-length image k q fits, small (get_or js p 0) (count_at js p l)))

    pub put_map_bits-bytes : Bytes (put_map_bits image k q js v)
    unfolding put_map_bits
    put_map_bits-bytes = splice-bytes (512 * k) (omega (arith, bits-long)) bytes put.bytes

    pub put_map_bits-bit : (j : ℕ) → In j js → bit_at (region (put_map_bits image k q js v) k q) j ≡ v
    put_map_bits-bit j m =
        let f : Found j js = count-find j js m in
        rw (put_map_bits-map, ← f.here) (put.inside f.at f.inside)

    pub put_map_bits-rest : (j : ℕ) → count j js ≡ 0 → bit_at (region (put_map_bits image k q js v) k q) j ≡ bit_at (region image k q) j
    put_map_bits-rest j none =
        rw put_map_bits-map (put.outside j (λ p l e. omega (arith, rw e at (count_at js p l))))
