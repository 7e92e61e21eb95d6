-- What the program makes of a text.
pub mod Verdicts
pub mod Answers
