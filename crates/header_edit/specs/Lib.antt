pub mod Cleared
pub mod Extended
