-- What a ground asks.
pub mod Grounds
