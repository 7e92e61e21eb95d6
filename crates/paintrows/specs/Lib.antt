-- Rows of walk bytes that can be painted.
pub mod PaintRows
