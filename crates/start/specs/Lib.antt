-- What the contracts of this crate speak of: where lanes start.
pub mod Hits
