-- What is answered once the ring is found.
pub mod Answers
