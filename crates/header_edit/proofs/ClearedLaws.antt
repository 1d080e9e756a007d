-- Laws of a cleared slot: it has 512 bytes and keeps its sequence word.
use mathlib.Core.Path.{◌≡◌, ◌∙◌}
use mathlib.Core.List.{List}
use Prim.Native.Nat.{ℕ, ◌<◌}
use native.Mathlib.Omega.{arith}
use lib.ListN.{length}
use Rattle.image.specs.Words.{Bytes}
use Rattle.image.specs.Stores.{zeros}
use Rattle.image.proofs.WordLaws.{word_below}
use Rattle.image.proofs.StoreLaws.{put_word-agree, put_word-word, put_word-bytes, zeros-length, zeros-bytes}
use Rattle.header.specs.Fields.{h_fseq}
use Rattle.header_edit.specs.Cleared.{cleared_slot}

fseq-below : (h : List ℕ) → Bytes h → h_fseq h < 65536
unfolding h_fseq
fseq-below h bytes = word_below h bytes 4

pub cleared-length : (h : List ℕ) → length (cleared_slot h) ≡ 512
unfolding cleared_slot
cleared-length h = (put_word-agree (zeros 512) 4 (h_fseq h)).len ∙ zeros-length 512

pub cleared-bytes : (h : List ℕ) → Bytes h → Bytes (cleared_slot h)
unfolding cleared_slot
cleared-bytes h bytes = put_word-bytes 4 (h_fseq h) (fseq-below h bytes) (zeros-bytes 512)

pub cleared-fseq : (h : List ℕ) → Bytes h → h_fseq (cleared_slot h) ≡ h_fseq h
unfolding cleared_slot h_fseq
cleared-fseq h bytes = put_word-word (zeros 512) 4 (h_fseq h) (omega (arith, zeros-length 512))
