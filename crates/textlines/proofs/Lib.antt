-- What a line and a text of lines are, shown to be determined.
pub mod Lines
pub mod Texts
