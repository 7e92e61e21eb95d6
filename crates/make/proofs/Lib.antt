-- The fills of a ground, the lanes before the first sweep, what a run of sweeps makes and leaves alone, and the field made.
pub mod LanesMade
pub mod Started
pub mod FieldJoin
pub mod RunStays
pub mod UsedParts
pub mod Made
pub mod SiteMade
