pub mod TakeLaws
