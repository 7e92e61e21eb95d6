-- Laws of the crate.
pub mod Bits
