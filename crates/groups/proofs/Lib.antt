-- Laws of the crate.
pub mod Calls
pub mod Few
pub mod Once
