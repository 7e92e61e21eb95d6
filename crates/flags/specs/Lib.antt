-- What the contracts of this crate speak of: flag bytes.
pub mod Flags
