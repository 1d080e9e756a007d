pub mod HomesLaws
pub mod RaiseLaws
