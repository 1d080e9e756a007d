pub mod Refusal
pub mod Outcome
pub mod Answers
pub mod Words
pub mod Values
