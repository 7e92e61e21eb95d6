-- The field call's answer as document 01's.
pub mod Answers
