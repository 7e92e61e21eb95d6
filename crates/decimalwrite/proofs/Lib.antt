-- A number written digit by digit.
pub mod Writing
