pub mod Extents
pub mod Claims
