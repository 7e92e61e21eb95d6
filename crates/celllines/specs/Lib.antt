-- The lines of cells.
pub mod Costs
