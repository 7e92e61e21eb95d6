-- Decimal numbers as texts, and what reading and writing them comes to.
pub mod Numbers
pub mod Numerals
pub mod Answers
