-- Digits, the canonical text of a number, and what reading and writing it come to.
pub mod Digits
pub mod Values
pub mod Canonical
pub mod Places
pub mod Limits
pub mod Reading
pub mod Signs
pub mod RoundTrip
