pub mod ClearedLaws
pub mod ExtendedLaws
