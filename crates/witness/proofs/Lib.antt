pub mod AcceptedV
