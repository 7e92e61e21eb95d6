-- The table of refusals: the number and the place of each row.
pub mod Table
