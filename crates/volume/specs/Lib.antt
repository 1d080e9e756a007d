pub mod Volume
pub mod Opening
