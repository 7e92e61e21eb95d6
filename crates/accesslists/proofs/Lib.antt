-- The laws that the proofs of this crate cite, and those for its callers: the results are lists that the fields call takes.
pub mod Verdicts
pub mod Ends
pub mod JoinLists
