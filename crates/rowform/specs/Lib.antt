-- A row of a map in a room text.
pub mod Rows
