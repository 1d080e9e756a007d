pub mod Fields
pub mod Flags
pub mod Ident
pub mod Attributes
