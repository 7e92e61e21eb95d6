-- What the contracts of this crate speak of: ranks.
pub mod Ranks
