-- The limits of a room that the program takes.
pub mod Limits
