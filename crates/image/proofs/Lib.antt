pub mod BitLaws
pub mod BlockLaws
pub mod StoreLaws
pub mod SumLaws
pub mod WordLaws
pub mod WriteLaws
