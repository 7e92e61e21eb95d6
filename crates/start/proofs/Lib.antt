-- The laws that the proofs of this crate cite, and that lanes start exactly where document 01 says (HitsAre).
mod Some
mod Turns
mod Rooms
pub mod HitsAre
