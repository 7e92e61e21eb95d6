-- The field call's promise from its plan, and that it determines the answer.
pub mod Answers
pub mod Calls
