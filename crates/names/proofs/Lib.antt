pub mod NameLaws
pub mod ProperLaws
