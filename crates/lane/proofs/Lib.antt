-- Laws of lanes. Signed and Machine read signed numbers, and Levels says how levels stand to half costs.
pub mod Signed
pub mod Machine
pub mod Levels
