-- Laws of the crate.
pub mod Whole
pub mod Once
