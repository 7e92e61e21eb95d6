-- Laws of the cost that a lane holds.
pub mod Costs
