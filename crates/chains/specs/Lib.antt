pub mod Members
pub mod Chains
pub mod Finding
