-- The headers of a file's chain as a writer keeps them.
use Rattle.std.specs.Prelude.{◌≡◌, List, ℕ, ◌≤◌, length, take}
use Rattle.chains.specs.Chains.{chain_of, slots_of}
use Rattle.chains.specs.declared.Members.{Members}

-- m lists the numbers of the headers of the file whose first header has number n, and the LBNs of their slots. 01, The header: "A chain thus ends within
-- 256 headers."
pub record Lists (image : List ℕ) (n : ℕ) (m : Members) : Type 0 where
  pub least : 1 ≤ m.count
  pub most : m.count ≤ 256
  pub long : length (chain_of image n) ≡ m.count
  pub numbers : take m.count m.numbers ≡ chain_of image n
  pub slots : take m.count m.slots ≡ slots_of image (chain_of image n)
