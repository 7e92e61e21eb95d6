-- The laws of the two ways along a row, for the callers: the table of gates, marks of change, and the loops along a row.
pub mod Table
pub mod Marked
pub mod Lanewise
pub mod Passes
