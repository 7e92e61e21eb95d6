-- Version buffers.
pub mod Versions
