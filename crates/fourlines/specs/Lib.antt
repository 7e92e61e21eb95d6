-- Lines of four numbers, and what reading and storing them comes to.
pub mod Storing
pub mod Answers
