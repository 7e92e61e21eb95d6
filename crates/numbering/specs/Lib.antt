-- What the contracts of this crate speak of: roots in a list of parents, and the numbers that resources have so far.
pub mod Fields
