pub mod Sound
pub mod Claims
