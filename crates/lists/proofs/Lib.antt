pub mod BelowLaws
pub mod FirstLaws
pub mod NumbersLaws
pub mod CountLaws
pub mod SumLaws
