-- By the facts on a byte nothing is lost in the shifts, the difference or the sum.
use Rattle.std.proofs.Common.{ℕ, ◌<◌, arith}
use Rattle.image.specs.Bits.{bit_of}
use Rattle.image.specs.Stores.{with_bit}
use Rattle.image.proofs.BitLaws.{WithBit, with_bit-facts}
use Rattle.stores.proofs.with_bit.Goals as goal

facts : (b k v : ℕ) → b < 256 → k < 8 → v < 2 → WithBit b k v 0
facts b k v in_byte in_eight is_bit = with_bit-facts b k v 0 in_byte in_eight is_bit (omega arith)

pub overflow_add-result : goal.overflow_add-result
unfolding with_bit bit_of
overflow_add-result c = omega (arith, facts c.args.b c.args.k c.args.v (omega arith) (omega arith) (omega arith))

pub returns : goal.returns
unfolding with_bit bit_of
returns c = omega (arith, facts c.args.b c.args.k c.args.v (omega arith) (omega arith) (omega arith))
