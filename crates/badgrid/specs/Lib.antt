-- What the contracts of this crate speak of: the greatest of many bytes, and the limits of a size.
pub mod Greatest
pub mod Grids
