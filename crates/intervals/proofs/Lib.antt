-- The laws that the proofs of this crate cite, and what a field call leaves in the row intervals.
pub mod Columns
pub mod RowsMade
pub mod Fits
