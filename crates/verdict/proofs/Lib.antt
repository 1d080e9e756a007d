pub mod CountingLaws
pub mod PassedLaws
