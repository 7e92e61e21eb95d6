-- Buffers that end as 0.
pub mod Zeros
