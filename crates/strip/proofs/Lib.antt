-- Laws of strips, for the callers: what is loaded, what was stored, and marks of change.
pub mod Entries
pub mod Strips
pub mod Placed
pub mod Marks
