pub mod SpareLaws
