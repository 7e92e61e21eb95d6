-- The fields call's promise determines the answer.
pub mod Answers
