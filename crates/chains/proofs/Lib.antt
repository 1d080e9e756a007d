pub mod MemberLaws
pub mod ChainLaws
pub mod IndexFile
pub mod LinkLaws
pub mod NumberLaws
pub mod SizeLaws
pub mod FindingLaws
