-- The code's verdict as document 01's.
pub mod Verdicts
