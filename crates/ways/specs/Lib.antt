-- What the contracts of this crate speak of: a row after each way, and the buffers that a way reads.
pub mod Row
pub mod Buffers
