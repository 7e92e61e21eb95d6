-- The sections of rectangles of a room text, and what reading them finds.
pub mod Readings
pub mod Answers
