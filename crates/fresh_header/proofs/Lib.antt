pub mod FreshLaws
pub mod SealedLaws
