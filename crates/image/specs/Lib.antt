pub mod Words
pub mod Blocks
pub mod Sums
pub mod Bits
pub mod Stores
