-- The field call's refusals 1 to 6 in two parts.
pub mod Verdicts
