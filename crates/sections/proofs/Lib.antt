-- What reading and storing a section of a room text comes to.
pub mod Sections
