-- What the contract of this crate speaks of: parents that are roots.
pub mod Roots
