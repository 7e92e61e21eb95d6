-- The numbers that stand for an answer.
pub mod Numbers
