-- The code's boxes as those of the walk graph.
pub mod Boxes
