-- The code's rings as those of the walk graph.
pub mod Rings
