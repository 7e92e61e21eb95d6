-- Rooms, their texts, and what reading a text finds.
pub mod Room
pub mod Readings
pub mod Answers
