-- A number and a place name one row of the table.
pub mod Rows
