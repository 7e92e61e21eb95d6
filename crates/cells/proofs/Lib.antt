-- Laws of tests and casts.
pub mod Bools
pub mod Casts
