-- The sheet of a room whose field is made, of a room and of any text, and what the library function promises.
pub mod Shown
pub mod Drawings
pub mod SheetText
pub mod Promise
