-- The laws that the proofs of the crates above cite.
pub mod Answers
