pub mod Calls
pub mod Claims
pub mod Writing
pub mod ReadBack
