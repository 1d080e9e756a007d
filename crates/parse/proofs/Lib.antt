pub mod ParseLaws
pub mod PartLaws
