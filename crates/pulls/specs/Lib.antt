-- What a row pulls.
pub mod Pulls
