-- Laws of rings: which rectangles have one, the search for the first that has none, and the box around all.
pub mod Sides
pub mod Search
pub mod Sources
