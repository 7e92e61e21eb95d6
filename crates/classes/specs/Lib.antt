-- What the contracts of this crate speak of: the fields found.
pub mod Classes
