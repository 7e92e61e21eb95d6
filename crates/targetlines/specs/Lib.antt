-- The lines of the target cells.
pub mod Targets
