-- What the contracts of this crate speak of: which moves are picked, and how they are listed.
pub mod Picks
pub mod Listed
