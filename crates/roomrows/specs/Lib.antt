-- The rows of a map in a room text, and what reading them finds.
pub mod Rows
pub mod Answers
