-- The places of the walkable cells of a ring, row by row, and the room that they need.
pub mod Rows
pub mod Room
