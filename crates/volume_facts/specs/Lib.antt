pub mod Volumes
pub mod Values
