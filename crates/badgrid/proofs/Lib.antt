-- The laws that the proofs of this crate cite, and what is known of a grid that is not refused.
pub mod Grids
pub mod Accepted
