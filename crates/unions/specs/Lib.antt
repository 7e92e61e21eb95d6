-- What the contracts of this crate speak of: what joining leaves.
pub mod Joining
