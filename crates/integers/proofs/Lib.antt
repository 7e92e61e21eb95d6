-- Numbers of 32 bits in their limits.
pub mod Limits
