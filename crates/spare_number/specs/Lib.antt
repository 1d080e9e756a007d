pub mod SpareNumber
