pub mod HeadLaws
pub mod WalkLaws
