pub mod DigitLaws
pub mod RoundTripLaws
