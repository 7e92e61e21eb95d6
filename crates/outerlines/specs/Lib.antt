-- The lines before and after those of the target cells.
pub mod Outer
