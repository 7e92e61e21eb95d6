-- What the contracts of this crate speak of: a cell's state, and what the search reads of it.
pub mod Labels
pub mod Looks
