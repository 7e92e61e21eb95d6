-- The lines of a text, and what looking for a line's end finds.
pub mod Lines
pub mod Answers
