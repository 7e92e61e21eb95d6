-- What the contract of this crate speaks of: fields that are numbered.
pub mod NumbersMade
