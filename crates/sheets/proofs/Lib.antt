-- Laws of the crate.
pub mod FieldShown
pub mod Accepted
pub mod RoomDrawn
pub mod Rooms
pub mod Delivered
pub mod Once
