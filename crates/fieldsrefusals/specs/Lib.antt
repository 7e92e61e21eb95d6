-- The lengths of what the fields call is lent.
pub mod Lengths
