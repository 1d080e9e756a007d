pub mod OnesLaws
