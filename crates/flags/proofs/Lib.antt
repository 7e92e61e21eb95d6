-- The laws that the proofs of this crate cite, and what a field call leaves in the flags.
pub mod FlagBytes
pub mod FlagsMade
pub mod Fits
