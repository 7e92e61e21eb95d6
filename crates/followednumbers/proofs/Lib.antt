-- Numbers and the bytes that must follow them.
pub mod Following
