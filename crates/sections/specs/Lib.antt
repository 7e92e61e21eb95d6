-- A section of lines of four numbers, and what reading and storing it comes to.
pub mod Storing
pub mod Answers
