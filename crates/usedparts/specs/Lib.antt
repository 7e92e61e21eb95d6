-- The fields call's buffers.
pub mod Lent
