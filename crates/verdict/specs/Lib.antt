pub mod Verdict
pub mod Values
