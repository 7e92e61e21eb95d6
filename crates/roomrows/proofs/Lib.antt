-- What reading the rows of a map comes to.
pub mod Bits
pub mod Lined
