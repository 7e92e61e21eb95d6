-- The laws that the proofs of this crate cite, and those by which a call uses its verdict.
pub mod Spans
pub mod Accepted
pub mod Judging
