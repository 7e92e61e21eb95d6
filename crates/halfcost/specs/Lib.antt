-- What the contracts of this crate speak of: the cost that a lane holds.
pub mod Costs
