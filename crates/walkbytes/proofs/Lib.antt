-- The laws that the proofs of this crate cite, and what a field call leaves in the walk bytes (WalkMade).
mod Copying
mod Boxed
mod Painted
pub mod WalkMade
pub mod Fits
