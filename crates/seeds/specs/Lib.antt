-- What the contracts of this crate speak of: the lists of access cells, and what labelling them leaves.
pub mod Sown
pub mod Sowing
