-- What the contracts of this crate speak of: how the classes grow.
pub mod Growth
