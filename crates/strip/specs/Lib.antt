-- What the contracts of this crate speak of: strips by their levels, and marks of change.
pub mod Strips
pub mod Marks
