pub mod PointerLaws
