pub mod FileLaws
pub mod SearchLaws
pub mod SingleLaws
