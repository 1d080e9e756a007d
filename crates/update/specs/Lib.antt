pub mod Writes
pub mod Create
pub mod Extend
pub mod Delete
