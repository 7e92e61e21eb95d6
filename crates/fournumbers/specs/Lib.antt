-- What the contract of this crate speaks of: the four numbers of a rectangle.
pub mod Corners
