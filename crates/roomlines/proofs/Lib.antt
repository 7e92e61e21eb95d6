-- What reading the lines of a room text comes to.
pub mod Spelled
pub mod Corners
pub mod Counting
pub mod Parts
pub mod Counted
