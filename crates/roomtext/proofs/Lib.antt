-- Rooms and their texts, and where a text first breaks the form.
pub mod Split
pub mod Rooms
pub mod Read
pub mod One
pub mod Buffers
pub mod Example
