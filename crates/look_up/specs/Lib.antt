pub mod LookUp
pub mod Values
