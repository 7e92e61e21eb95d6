-- The inside of a window by row, and what the functions about it assume.
pub mod Inside
