-- Laws of a header whose checksum was made right.
use mathlib.Core.Path.{◌≡◌, sym, ◌∙◌}
use mathlib.Core.List.{List}
use Prim.Native.Nat.{ℕ, ◌<◌}
use native.Mathlib.Omega.{arith}
use lib.ListN.{length}
use Rattle.image.specs.Words.{Bytes, word_at}
use Rattle.image.specs.Sums.{checksum}
use Rattle.image.proofs.SumLaws.{checksum-below}
use Rattle.image.proofs.StoreLaws.{Agree, agree-weaken, put_word-agree, put_word-word, put_word-bytes, put_word-checksum}
use Rattle.fresh_header.specs.Fresh.{sealed}

-- All but the last word stays.
pub sealed-agree : (h : List ℕ) → Agree (λ i. i < 510) h (sealed h)
unfolding sealed
sealed-agree h = agree-weaken (λ i l p q. omega arith) (put_word-agree h 510 (checksum h 255))

pub sealed-sum : (h : List ℕ) → length h ≡ 512 → checksum (sealed h) 255 ≡ word_at (sealed h) 510
unfolding sealed
sealed-sum h long = put_word-checksum h 510 (checksum h 255) 255 (omega arith) ∙ sym (put_word-word h 510 (checksum h 255) (omega arith))

pub sealed-bytes : {h : List ℕ} → Bytes h → Bytes (sealed h)
unfolding sealed
sealed-bytes {h} bytes = put_word-bytes 510 (checksum h 255) (checksum-below h 255) bytes
