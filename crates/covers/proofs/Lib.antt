pub mod CoverLaws
pub mod MarkedLaws
