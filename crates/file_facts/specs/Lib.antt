pub mod Files
pub mod Values
