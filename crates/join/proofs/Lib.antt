-- The laws that the proofs of this crate cite.
pub mod Rounds
pub mod Running
pub mod Directions
