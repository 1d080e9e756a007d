pub mod Files
pub mod Single
