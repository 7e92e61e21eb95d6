-- The flags of a cell.
pub mod CellFlags
