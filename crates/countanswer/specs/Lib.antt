-- An answer that counts as document 01's, and the numbers that stand for it.
pub mod Answers
pub mod Numbers
