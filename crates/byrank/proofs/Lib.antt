-- The laws that the proofs of this crate and of the crates above cite.
pub mod ByRank
