-- What a caller's buffer gets.
pub mod Delivery
