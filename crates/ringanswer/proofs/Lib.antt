-- What is listed of a ring is the answer, and the answer is what access of a rectangle promises.
pub mod RingListing
pub mod Answers
