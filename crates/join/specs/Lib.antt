-- What the contracts of this crate speak of: the search.
pub mod Search
