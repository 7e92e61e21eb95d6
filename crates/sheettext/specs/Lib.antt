-- The whole sheet as text.
pub mod Sheets
