-- The code's answers as what was found.
pub mod Answers
