-- The section of the rows of a map, and what reading it finds.
pub mod Grids
pub mod Answers
