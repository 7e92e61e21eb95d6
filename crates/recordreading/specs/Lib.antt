-- A window record from the numbers of a caller.
pub mod Records
