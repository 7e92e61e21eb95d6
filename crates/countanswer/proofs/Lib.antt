-- No two answers have the same meaning.
pub mod Answers
