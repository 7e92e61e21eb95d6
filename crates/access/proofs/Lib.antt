-- What a call finds is what access of a rectangle promises.
pub mod Answers
