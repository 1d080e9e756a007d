pub mod IndexLaws
pub mod IndexSame
pub mod OpeningLaws
pub mod VolumeLaws
