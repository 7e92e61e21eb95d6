-- The cost of a cell for a resource as text.
pub mod Costs
