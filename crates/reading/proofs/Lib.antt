-- The laws of reading a cell.
pub mod Parts
