-- The fields of a room's resources.
pub mod Groups
